-- A text that is read, piece after piece.
use Rattle.std.proofs.Common.{◌≡◌, ◌⊎◌, inl, inr, ℕ, ◌+◌, ◌≤◌, Bool, false, nat_le, List, [], ◌++◌, length, Option, Some, None, Result, Ok, Err, codes, refl, ap, sym, ◌∙◌, subst, arith, length-append}
use Rattle.std.specs.Io.KnownBytes.{Consumes, IsAtEnd, Keeps}
use Rattle.std.proofs.lemmas.List.{append_assoc, append-nil}
use Rattle.std.proofs.lemmas.Bool.Decides.{nat_tests}
use Rattle.nova_workflow.specs.declared.flow.Flow.{Flow}
use Rattle.nova_flow.specs.Answers.{◌>>=◌, require}
use Rattle.nova_flow.specs.Flows.{document_needed, flow_of, flow_of_document}
use Rattle.nova_flow.specs.declared.fault.FlowFault.{FlowFault}
use Rattle.nova_flow.specs.declared.fault.FlowFault.TheVariants as flow_fault
use Rattle.nova_machine.specs.Workflow.{Workflow}
use Rattle.nova_runner.specs.Texts.{HasFault, HasFlow}
use Rattle.nova_runner.specs.declared.text.TextFault.{TextFault}
use Rattle.nova_runner.specs.declared.text.TextFault.TheVariants as fault
use Rattle.nova_runner.proofs.Texts.{short_text}
use Rattle.nova_engine.specs.Taken.{ReadText, TextsAreInputs, TookText}

-- ---- pieces

abbrev Rest : List ℕ → List ℕ → Option (List ℕ) → Type 0
Rest rest bytes new = (more : List ℕ) × (new ≡ Some more) × (rest ≡ bytes ++ more)

consumed : (rest bytes : List ℕ) (new : Option (List ℕ)) → Consumes (Some rest) new bytes → Rest rest bytes new
consumed rest bytes None c = absurd c
consumed rest bytes (Some more) c = (more, refl, c)

kept : (rest : List ℕ) (new : Option (List ℕ)) → Keeps (Some rest) new → new ≡ Some rest
kept rest None c = absurd c
kept rest (Some more) c = ap (λ (xs : List ℕ). let o : Option (List ℕ) = Some xs in o) c

ended : (rest : List ℕ) (new : Option (List ℕ)) → new ≡ Some rest → IsAtEnd new → new ≡ Some []
ended rest None is at = absurd (cc)
ended rest (Some more) is at = ap (λ (xs : List ℕ). let o : Option (List ℕ) = Some xs in o) at

-- before the first piece
pub took_none : (input : List ℕ) (left : Option (List ℕ)) → left ≡ Some input → TookText input left []
took_none input left is = record { rest = input; left_is = is; input_is = refl; bound = omega arith }

-- one piece more
pub took_more : (input : List ℕ) (left new : Option (List ℕ)) (taken bytes : List ℕ) → TookText input left taken → Consumes left new bytes → length taken + length bytes ≤ 1048577 → TookText input new (taken ++ bytes)
took_more input left new taken bytes took c few =
    let next = consumed took.rest bytes new (subst (λ (o : Option (List ℕ)). Consumes o new bytes) took.left_is c) in
    let long = length-append taken bytes in
    record {
      rest = next.0;
      left_is = next.1;
      input_is = took.input_is ∙ ap (λ (xs : List ℕ). taken ++ xs) next.2 ∙ sym (append_assoc taken bytes next.0);
      bound = omega (arith, few, long);
    }

-- none more
pub took_kept : (input : List ℕ) (left new : Option (List ℕ)) (taken : List ℕ) → TookText input left taken → Keeps left new → TookText input new taken
took_kept input left new taken took c = record {
  rest = took.rest;
  left_is = kept took.rest new (subst (λ (o : Option (List ℕ)). Keeps o new) took.left_is c);
  input_is = took.input_is;
  bound = took.bound;
}

-- nothing was left
pub read_end : (input : List ℕ) (left new : Option (List ℕ)) (taken : List ℕ) → TookText input left taken → Consumes left new [] → IsAtEnd new → ReadText input new taken
read_end input left new taken took c at =
    let next = consumed took.rest [] new (subst (λ (o : Option (List ℕ)). Consumes o new []) took.left_is c) in
    record {
      took = record { rest = next.0; left_is = next.1; input_is = took.input_is ∙ ap (λ (xs : List ℕ). taken ++ xs) next.2; bound = took.bound };
      whole = λ _. ended next.0 new next.1 at;
    }

-- it is too long
pub read_long : (input : List ℕ) (left : Option (List ℕ)) (taken : List ℕ) → TookText input left taken → 1048577 ≤ length taken → ReadText input left taken
read_long input left taken took long = record { took = took; whole = λ few. absurd (omega (arith, few, long)) }

-- ---- what a text that was read says

some_same : (xs ys : List ℕ) → Some xs ≡ Some ys → xs ≡ ys
some_same xs ys e = cc

err_same : (d e : FlowFault) → (let r : Result Flow FlowFault = Err d in r) ≡ Err e → d ≡ e
err_same d e is = cc

never : (f : Flow) (e : FlowFault) → Err e ≡ Ok f → ⊥
never f e is = absurd cc

-- a text that is too long has that fault
long_fault : (text : List ℕ) → 1048577 ≤ length text → flow_of text ≡ Err (flow_fault.TooMany (codes "text"))
unfolding flow_of
long_fault text long =
    let no : nat_le (length text) 1048576 ≡ false = grind (arith, nat_tests) in
    ap (λ (b : Bool). require (flow_fault.TooMany (codes "text")) b >>= λ _. document_needed text >>= λ d. flow_of_document d) no

few_or_long : (n : ℕ) → (n ≤ 1048576) ⊎ (1048577 ≤ n)
few_or_long n = grind arith

all_taken : (input : List ℕ) (left : Option (List ℕ)) (text : List ℕ) → ReadText input left text → length text ≤ 1048576 → text ≡ input
all_taken input left text read few =
    let rest : read.took.rest ≡ [] = some_same read.took.rest [] (sym read.took.left_is ∙ read.whole few) in
    sym (read.took.input_is ∙ ap (λ (xs : List ℕ). text ++ xs) rest ∙ append-nil text)

pub texts_are_inputs : TextsAreInputs
texts_are_inputs input left text read = (flows, faults)
  where
    flows : (w : Workflow) → HasFlow text w → text ≡ input
    flows w has = all_taken input left text read (short_text text has.flow has.read)

    longer : 1048577 ≤ length text → 1048577 ≤ length input
    longer long = let all = ap length read.took.input_is in let parts = length-append text read.took.rest in omega (arith, long, all, parts)

    of_long : 1048577 ≤ length text → (why : TextFault) → HasFault text why → HasFault input why
    of_long long (fault.Flow why) has = (has.0, long_fault input (longer long) ∙ sym (long_fault text long) ∙ has.1)
    of_long long (fault.Admit why) has = absurd (never has.1 (flow_fault.TooMany (codes "text")) (sym (long_fault text long) ∙ has.2))

    faults : (why : TextFault) → HasFault text why → HasFault input why
    faults why has = elim (few_or_long (length text)) as (λ _. HasFault input why) [
      | inl few ↦ subst (λ t. HasFault t why) (all_taken input left text read few) has
      | inr long ↦ of_long long why has
    ]
