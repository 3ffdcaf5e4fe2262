-- The tasks that are stated, and what their inputs keep.
use Rattle.std.proofs.Common.{◌≡◌, ℕ, ◌+◌, ◌<◌, ◌≤◌, Bool, true, false, not, ◌&&◌, nat_eq, nat_le, List, [], ◌∷◌, ◌++◌, length, Option, Some, Ok, Err, codes, refl, subst, ◌∙◌, arith, length-append}
use Rattle.std.specs.Prelude.{if◌then◌else◌}
use Rattle.std.proofs.lemmas.Bool.{and_parts}
use Rattle.std.proofs.lemmas.Bool.Decides.{nat_tests}
use Rattle.std.proofs.lemmas.List.Quantifiers.{position-Some}
use Rattle.toml.specs.Data.{Data}
use Rattle.nova_workflow.specs.declared.flow.Channel.{Channel}
use Rattle.nova_workflow.specs.declared.flow.Input.{Input}
use Rattle.nova_flow.specs.declared.fault.FlowFault.TheVariants as fault
use Rattle.nova_flow.specs.Answers.{◌>>=◌, require}
use Rattle.nova_name.specs.Keywords.{same_text}
use Rattle.nova_name.specs.Names.{is_name}
use Rattle.nova_flow.specs.Words.{kept}
use Rattle.nova_flow.specs.Rules.{only, text_needed, texts_needed, text_if_there, at_most, at_least_one}
use Rattle.nova_flow.specs.Channels.{channel_place}
use Rattle.nova_flow.specs.Tasks.{Stated, words_of, mode_of, based_of, channel_named, reads, input_of, inputs_after, output_of, has_task, new_task, inputs_needed, task_keys, task_of, tasks_after, tasks_of}
use Rattle.nova_workflow.specs.Whole.{Each, EachOnce}
use Rattle.nova_flow.proofs.Binds.{bind_ok, through, ok_ok, require_ok, some_or_ok, some_item}
use Rattle.nova_flow.proofs.Places.{any_none, each_push, once_push}
use Rattle.nova_flow.proofs.WholeChannels.{same_itself, negated, within_limit}

channel_within : (cs : List Channel) (name : List ℕ) (k : ℕ) → channel_place name cs ≡ Some k → k < length cs
channel_within [] name k is = cc
channel_within (c ∷ cs) name k is = (position-Some (λ x. same_text x.name name) (c ∷ cs) k c is).0

input_ok : (cs : List Channel) (done : List Input) (text : List ℕ) (i : Input) → input_of cs done text ≡ Ok i → (i.channel < length cs) × (reads i.channel done ≡ false)
input_ok cs done text i e =
    let s0 = bind_ok (words_of text) (λ w. mode_of w.1 >>= λ mode. channel_named cs w.0 >>= λ channel. require (fault.BadName (kept w.0)) (not (reads channel done)) >>= λ _. Ok (record { channel = channel; mode = mode })) i e in
    let w = s0.0 in
    let s1 = bind_ok (mode_of w.1) (λ mode. channel_named cs w.0 >>= λ channel. require (fault.BadName (kept w.0)) (not (reads channel done)) >>= λ _. Ok (record { channel = channel; mode = mode })) i s0.2 in
    let mode = s1.0 in
    let s2 = bind_ok (channel_named cs w.0) (λ channel. require (fault.BadName (kept w.0)) (not (reads channel done)) >>= λ _. Ok (record { channel = channel; mode = mode })) i s1.2 in
    let channel = s2.0 in
    let s3 = bind_ok (require (fault.BadName (kept w.0)) (not (reads channel done))) (λ _. Ok (record { channel = channel; mode = mode })) i s2.2 in
    let made : record { channel = channel; mode = mode } ≡ i = ok_ok (record { channel = channel; mode = mode }) i s3.2 in
    let lt = channel_within cs w.0 channel (some_or_ok (fault.BadName (kept w.0)) (channel_place w.0 cs) channel s2.1) in
    let new = negated (reads channel done) (require_ok (fault.BadName (kept w.0)) (not (reads channel done)) s3.0 s3.1) in
    subst (λ (x : Input). (x.channel < length cs) × (reads x.channel done ≡ false)) made (lt, new)

pub record Inputs (channels count : ℕ) (ins : List Input) : Type 0 where
  pub each : Each (λ k i. i.channel < channels) ins
  pub once : EachOnce (λ a b. nat_eq a.channel b.channel) ins
  pub counted : length ins ≡ count

nat_itself : (n : ℕ) → nat_eq n n ≡ true
nat_itself n = grind (arith, nat_tests)

no_inputs : (n : ℕ) → Inputs n 0 []
no_inputs n = record { each = λ k x e. cc; once = λ k x e. cc; counted = refl }

inputs_keep : (cs : List Channel) (done : List Input) (n : ℕ) (texts : List (List ℕ)) (ins : List Input) → inputs_after cs done texts ≡ Ok ins → Inputs (length cs) n done → Inputs (length cs) (n + length texts) ins
inputs_keep cs done n [] ins e is = let same : done ≡ ins = cc in subst (Inputs (length cs) (n + 0)) same (record { each = is.each; once = is.once; counted = omega (arith, is.counted) })
inputs_keep cs done n (text ∷ texts) ins e is =
    let s0 = bind_ok (input_of cs done text) (λ i. inputs_after cs (done ++ i ∷ []) texts) ins e in
    let i = s0.0 in
    let new = input_ok cs done text i s0.1 in
    let grown : Inputs (length cs) (n + 1) (done ++ i ∷ []) = record {
      each = each_push (λ k x. x.channel < length cs) done i is.each new.0;
      once = once_push (λ a b. nat_eq a.channel b.channel) done i is.once (any_none (λ x. nat_eq x.channel i.channel) done new.1) (nat_itself i.channel);
      counted = length-append done (i ∷ []) ∙ omega (arith, is.counted);
    } in
    let rest = inputs_keep cs (done ++ i ∷ []) (n + 1) texts ins s0.2 grown in
    record { each = rest.each; once = rest.once; counted = omega (arith, rest.counted) }

output_ok : (cs : List Channel) (text : List ℕ) (o : ℕ × Bool) → output_of cs text ≡ Ok o → o.0 < length cs
output_ok cs text o e =
    let s0 = bind_ok (words_of text) (λ w. based_of w.1 >>= λ based. channel_named cs w.0 >>= λ channel. Ok (channel, based)) o e in
    let w = s0.0 in
    let s1 = bind_ok (based_of w.1) (λ based. channel_named cs w.0 >>= λ channel. Ok (channel, based)) o s0.2 in
    let based = s1.0 in
    let s2 = bind_ok (channel_named cs w.0) (λ channel. Ok (channel, based)) o s1.2 in
    let channel = s2.0 in
    let made : (channel, based) ≡ o = ok_ok ((channel, based)) o s2.2 in
    subst (λ (x : ℕ × Bool). x.0 < length cs) made (channel_within cs w.0 channel (some_or_ok (fault.BadName (kept w.0)) (channel_place w.0 cs) channel s2.1))

-- a task as it is stated
pub record IsStated (channels : ℕ) (t : Stated) : Type 0 where
  pub name : is_name t.name ≡ true
  pub some_input : 1 ≤ length t.inputs
  pub few_inputs : length t.inputs ≤ 16
  pub inputs : Each (λ k i. i.channel < channels) t.inputs
  pub once : EachOnce (λ a b. nat_eq a.channel b.channel) t.inputs
  pub output : t.output < channels

named_ok : (done : List Stated) (name n : List ℕ) → new_task done name ≡ Ok n → (is_name n ≡ true) × (has_task n done ≡ false)
named_ok done name n e = by (is_name name && not (has_task name done)) refl e
  where
    by : (b : Bool) → (is_name name && not (has_task name done)) ≡ b → (if b then Ok name else Err (fault.BadName (kept name))) ≡ Ok n → (is_name n ≡ true) × (has_task n done ≡ false)
    by false t e = cc
    by true t e =
        let same : name ≡ n = cc in
        let (is, new) = and_parts (is_name name) (not (has_task name done)) t in
        subst (λ (m : List ℕ). (is_name m ≡ true) × (has_task m done ≡ false)) same (is, negated (has_task name done) new)

needed_ok : (d : Data) (texts : List (List ℕ)) → inputs_needed d ≡ Ok texts → 1 ≤ length texts
needed_ok d texts e =
    let s0 = bind_ok (texts_needed (codes "inputs") d) (λ inputs. at_least_one (fault.Missing (codes "inputs")) inputs >>= λ _. Ok inputs) texts e in
    let inputs = s0.0 in
    let s1 = bind_ok (at_least_one (fault.Missing (codes "inputs")) inputs) (λ _. Ok inputs) texts s0.2 in
    let same : inputs ≡ texts = ok_ok (inputs) texts s1.2 in
    subst (λ (x : List (List ℕ)). 1 ≤ length x) same (some_item (fault.Missing (codes "inputs")) inputs s1.0 s1.1)

-- what a task that is read is
abbrev TaskOk : List Channel → List Stated → Stated → Type 0
TaskOk cs done t = IsStated (length cs) t × (has_task t.name done ≡ false)

task_made : (cs : List Channel) (done : List Stated) (d : Data) (stated name script output : List ℕ) (inputs : List (List ℕ)) (ins : List Input) (out : ℕ × Bool) (trigger : Option (List ℕ)) (u : Unit {0})
    → inputs_needed d ≡ Ok inputs → new_task done stated ≡ Ok name → at_most (codes "inputs") 16 (length inputs) ≡ Ok u → inputs_after cs [] inputs ≡ Ok ins → output_of cs output ≡ Ok out
    → TaskOk cs done (record { name = name; script = script; inputs = ins; output = out.0; based = out.1; trigger = trigger })
task_made cs done d stated name script output inputs ins out trigger u some named limit all to =
    let few : length inputs ≤ 16 = within_limit (length inputs) 16 (require_ok (fault.TooMany (codes "inputs")) (nat_le (length inputs) 16) u limit) in
    let one : 1 ≤ length inputs = needed_ok d inputs some in
    let kept = inputs_keep cs [] 0 inputs ins all (no_inputs (length cs)) in
    let new = named_ok done stated name named in (
      record {
        name = new.0;
        some_input = omega (arith, kept.counted);
        few_inputs = omega (arith, kept.counted);
        inputs = kept.each;
        once = kept.once;
        output = output_ok cs output out to;
      },
      new.1,
    )

task_ok : (cs : List Channel) (done : List Stated) (d : Data) (t : Stated) → task_of cs done d ≡ Ok t → TaskOk cs done t
task_ok cs done d t e =
    through (TaskOk cs done t) (only task_keys d) (λ _. text_needed (codes "name") d >>= λ stated. text_needed (codes "script") d >>= λ script. inputs_needed d >>= λ inputs. text_needed (codes "output") d >>= λ output. text_if_there (codes "trigger") d >>= λ trigger. new_task done stated >>= λ name. at_most (codes "inputs") 16 (length inputs) >>= λ _. inputs_after cs [] inputs >>= λ ins. output_of cs output >>= λ out. Ok (record { name = name; script = script; inputs = ins; output = out.0; based = out.1; trigger = trigger })) t e (λ u0 h0 e0.
    through (TaskOk cs done t) (text_needed (codes "name") d) (λ stated. text_needed (codes "script") d >>= λ script. inputs_needed d >>= λ inputs. text_needed (codes "output") d >>= λ output. text_if_there (codes "trigger") d >>= λ trigger. new_task done stated >>= λ name. at_most (codes "inputs") 16 (length inputs) >>= λ _. inputs_after cs [] inputs >>= λ ins. output_of cs output >>= λ out. Ok (record { name = name; script = script; inputs = ins; output = out.0; based = out.1; trigger = trigger })) t e0 (λ stated h1 e1.
    through (TaskOk cs done t) (text_needed (codes "script") d) (λ script. inputs_needed d >>= λ inputs. text_needed (codes "output") d >>= λ output. text_if_there (codes "trigger") d >>= λ trigger. new_task done stated >>= λ name. at_most (codes "inputs") 16 (length inputs) >>= λ _. inputs_after cs [] inputs >>= λ ins. output_of cs output >>= λ out. Ok (record { name = name; script = script; inputs = ins; output = out.0; based = out.1; trigger = trigger })) t e1 (λ script h2 e2.
    through (TaskOk cs done t) (inputs_needed d) (λ inputs. text_needed (codes "output") d >>= λ output. text_if_there (codes "trigger") d >>= λ trigger. new_task done stated >>= λ name. at_most (codes "inputs") 16 (length inputs) >>= λ _. inputs_after cs [] inputs >>= λ ins. output_of cs output >>= λ out. Ok (record { name = name; script = script; inputs = ins; output = out.0; based = out.1; trigger = trigger })) t e2 (λ inputs h3 e3.
    through (TaskOk cs done t) (text_needed (codes "output") d) (λ output. text_if_there (codes "trigger") d >>= λ trigger. new_task done stated >>= λ name. at_most (codes "inputs") 16 (length inputs) >>= λ _. inputs_after cs [] inputs >>= λ ins. output_of cs output >>= λ out. Ok (record { name = name; script = script; inputs = ins; output = out.0; based = out.1; trigger = trigger })) t e3 (λ output h4 e4.
    through (TaskOk cs done t) (text_if_there (codes "trigger") d) (λ trigger. new_task done stated >>= λ name. at_most (codes "inputs") 16 (length inputs) >>= λ _. inputs_after cs [] inputs >>= λ ins. output_of cs output >>= λ out. Ok (record { name = name; script = script; inputs = ins; output = out.0; based = out.1; trigger = trigger })) t e4 (λ trigger h5 e5.
    through (TaskOk cs done t) (new_task done stated) (λ name. at_most (codes "inputs") 16 (length inputs) >>= λ _. inputs_after cs [] inputs >>= λ ins. output_of cs output >>= λ out. Ok (record { name = name; script = script; inputs = ins; output = out.0; based = out.1; trigger = trigger })) t e5 (λ name h6 e6.
    through (TaskOk cs done t) (at_most (codes "inputs") 16 (length inputs)) (λ _. inputs_after cs [] inputs >>= λ ins. output_of cs output >>= λ out. Ok (record { name = name; script = script; inputs = ins; output = out.0; based = out.1; trigger = trigger })) t e6 (λ u7 h7 e7.
    through (TaskOk cs done t) (inputs_after cs [] inputs) (λ ins. output_of cs output >>= λ out. Ok (record { name = name; script = script; inputs = ins; output = out.0; based = out.1; trigger = trigger })) t e7 (λ ins h8 e8.
    through (TaskOk cs done t) (output_of cs output) (λ out. Ok (record { name = name; script = script; inputs = ins; output = out.0; based = out.1; trigger = trigger })) t e8 (λ out h9 e9.
    subst (TaskOk cs done) (ok_ok (record { name = name; script = script; inputs = ins; output = out.0; based = out.1; trigger = trigger }) t e9)
    (task_made cs done d stated name script output inputs ins out trigger u7 h3 h6 h7 h8 h9)
    ))))))))))

pub record Tasks (channels count : ℕ) (ts : List Stated) : Type 0 where
  pub each : Each (λ k t. IsStated channels t) ts
  pub once : EachOnce (λ a b. same_text a.name b.name) ts
  pub counted : length ts ≡ count

tasks_keep : (cs : List Channel) (done : List Stated) (n : ℕ) (ds : List Data) (ts : List Stated) → tasks_after cs done ds ≡ Ok ts → Tasks (length cs) n done → Tasks (length cs) (n + length ds) ts
tasks_keep cs done n [] ts e is = let same : done ≡ ts = cc in subst (Tasks (length cs) (n + 0)) same (record { each = is.each; once = is.once; counted = omega (arith, is.counted) })
tasks_keep cs done n (d ∷ ds) ts e is =
    let s0 = bind_ok (task_of cs done d) (λ t. tasks_after cs (done ++ t ∷ []) ds) ts e in
    let t = s0.0 in
    let new = task_ok cs done d t s0.1 in
    let grown : Tasks (length cs) (n + 1) (done ++ t ∷ []) = record {
      each = each_push (λ k x. IsStated (length cs) x) done t is.each new.0;
      once = once_push (λ a b. same_text a.name b.name) done t is.once (any_none (λ x. same_text x.name t.name) done new.1) (same_itself t.name);
      counted = length-append done (t ∷ []) ∙ omega (arith, is.counted);
    } in
    let rest = tasks_keep cs (done ++ t ∷ []) (n + 1) ds ts s0.2 grown in
    record { each = rest.each; once = rest.once; counted = omega (arith, rest.counted) }

pub tasks_ok : (cs : List Channel) (ds : List Data) (ts : List Stated) → tasks_of cs ds ≡ Ok ts → Tasks (length cs) (length ds) ts
tasks_ok cs ds ts e =
    let all = tasks_keep cs [] 0 ds ts e (record { each = λ k x e. cc; once = λ k x e. cc; counted = refl }) in
    record { each = all.each; once = all.once; counted = omega (arith, all.counted) }
