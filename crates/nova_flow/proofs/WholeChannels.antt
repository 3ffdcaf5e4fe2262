-- The channels that are read, and what their columns and keys keep.
use Rattle.std.proofs.Common.{◌≡◌, ℕ, ◌+◌, ◌<◌, ◌≤◌, Bool, true, false, not, cond, ◌&&◌, nat_lt, nat_le, List, [], ◌∷◌, ◌++◌, length, Option, Some, None, option_and_then, Ok, Err, codes, refl, subst, ◌∙◌, arith, length-append}
use Rattle.std.specs.List.{position}
use Rattle.std.specs.Prelude.{is_some, if◌then◌else◌}
use Rattle.std.proofs.lemmas.Slice.Eq.{bytes_eq-Decides}
use Rattle.std.proofs.lemmas.Bool.{and_parts}
use Rattle.std.proofs.lemmas.Bool.Decides.{nat_tests}
use Rattle.std.proofs.lemmas.List.Quantifiers.{position-Some}
use Rattle.toml.specs.Data.{Data}
use Rattle.nova_value.specs.declared.value.Kind.{Kind}
use Rattle.nova_value.specs.declared.schema.Column.{Column}
use Rattle.nova_value.specs.Rows.{Shape, IsShape, is_shape, all_below, none_is, all_distinct}
use Rattle.nova_value.proofs.Shapes.{shape_from_test}
use Rattle.nova_workflow.specs.declared.flow.Channel.{Channel}
use Rattle.nova_flow.specs.declared.fault.FlowFault.TheVariants as fault
use Rattle.nova_flow.specs.Answers.{◌>>=◌, some_or}
use Rattle.nova_name.specs.Keywords.{same_text, is_keyword}
use Rattle.nova_name.specs.Names.{is_name}
use Rattle.nova_flow.specs.Words.{kept, two_words, kind_of}
use Rattle.nova_flow.specs.Rules.{only, text_needed, texts_needed, at_most, at_least_one}
use Rattle.nova_flow.specs.Channels.{column_place, column_named, column_of, columns_after, columns_of, place_if_new, key_place, key_after, key_of, schema_of, channel_place, new_channel, channel_keys, channel_of, channels_after, channels_of}
use Rattle.nova_workflow.specs.Whole.{Each, EachOnce, IsColumn}
use Rattle.nova_flow.proofs.Binds.{bind_ok, through, ok_ok, require_ok, some_or_ok, some_item}
use Rattle.nova_flow.proofs.Keys.{below_last, distinct_last}
use Rattle.nova_flow.proofs.Places.{each_push, once_push}

pub same_itself : (name : List ℕ) → same_text name name ≡ true
same_itself name = (bytes_eq-Decides name name).1 refl

pub negated : (b : Bool) → not b ≡ true → b ≡ false
negated true e = cc
negated false e = refl

pub not_some : {A : Type 0} (o : Option A) → not (is_some o) ≡ true → o ≡ None
not_some (Some x) e = cc
not_some None e = refl

column_named_ok : (done : List Column) (name : List ℕ) (k : Kind) (c : Column) → column_named done name k ≡ Some c → IsColumn 0 c × (column_place c.name done ≡ None)
column_named_ok done name k c e = by ((is_name name && not (is_keyword name)) && not (is_some (column_place name done))) refl e
  where
    by : (b : Bool) → ((is_name name && not (is_keyword name)) && not (is_some (column_place name done))) ≡ b → cond b (Some (record { name = name; kind = k })) None ≡ Some c → IsColumn 0 c × (column_place c.name done ≡ None)
    by false t e = cc
    by true t e =
        let same : record { name = name; kind = k } ≡ c = cc in
        let (first, new) = and_parts (is_name name && not (is_keyword name)) (not (is_some (column_place name done))) t in
        let (is, other) = and_parts (is_name name) (not (is_keyword name)) first in
        subst (λ (d : Column). IsColumn 0 d × (column_place d.name done ≡ None)) same ((is, negated (is_keyword name) other), not_some (column_place name done) new)

column_ok : (done : List Column) (text : List ℕ) (c : Column) → column_of done text ≡ Some c → IsColumn 0 c × (column_place c.name done ≡ None)
column_ok done text c e = words (two_words text) e
  where
    kinds : (name : List ℕ) (k : Option Kind) → option_and_then (column_named done name) k ≡ Some c → IsColumn 0 c × (column_place c.name done ≡ None)
    kinds name None e = cc
    kinds name (Some k) e = column_named_ok done name k c e

    words : (w : Option (List ℕ × List ℕ)) → option_and_then (λ w. option_and_then (column_named done w.0) (kind_of w.1)) w ≡ Some c → IsColumn 0 c × (column_place c.name done ≡ None)
    words None e = cc
    words (Some w) e = kinds w.0 (kind_of w.1) e

pub record Columns (count : ℕ) (cs : List Column) : Type 0 where
  pub each : Each IsColumn cs
  pub once : EachOnce (λ a b. same_text a.name b.name) cs
  pub counted : length cs ≡ count

columns_keep : (channel : List ℕ) (done : List Column) (n : ℕ) (texts : List (List ℕ)) (cs : List Column) → columns_after channel done texts ≡ Ok cs → Columns n done → Columns (n + length texts) cs
columns_keep channel done n [] cs e is = let same : done ≡ cs = cc in subst (Columns (n + 0)) same (record { each = is.each; once = is.once; counted = omega (arith, is.counted) })
columns_keep channel done n (text ∷ texts) cs e is =
    let s0 = bind_ok (some_or (fault.BadColumn channel) (column_of done text)) (λ c. columns_after channel (done ++ c ∷ []) texts) cs e in
    let c = s0.0 in
    let new = column_ok done text c (some_or_ok (fault.BadColumn channel) (column_of done text) c s0.1) in
    let grown : Columns (n + 1) (done ++ c ∷ []) = record {
      each = each_push IsColumn done c is.each new.0;
      once = once_push (λ a b. same_text a.name b.name) done c is.once new.1 (same_itself c.name);
      counted = length-append done (c ∷ []) ∙ omega (arith, is.counted);
    } in
    let rest = columns_keep channel (done ++ c ∷ []) (n + 1) texts cs s0.2 grown in
    record { each = rest.each; once = rest.once; counted = omega (arith, rest.counted) }

no_columns : Columns 0 []
no_columns = record { each = λ k x e. cc; once = λ k x e. cc; counted = refl }

pub columns_ok : (channel : List ℕ) (texts : List (List ℕ)) (cs : List Column) → columns_of channel texts ≡ Ok cs → Columns (length texts) cs × (1 ≤ length texts)
columns_ok channel texts cs e =
    let s0 = bind_ok (at_least_one (fault.BadColumn channel) texts) (λ _. columns_after channel [] texts) cs e in
    let all = columns_keep channel [] 0 texts cs s0.2 no_columns in
    (record { each = all.each; once = all.once; counted = omega (arith, all.counted) }, some_item (fault.BadColumn channel) texts s0.0 s0.1)

pub record Places (columns count : ℕ) (ps : List ℕ) : Type 0 where
  pub below : all_below columns ps ≡ true
  pub distinct : all_distinct ps ≡ true
  pub counted : length ps ≡ count

place_ok : (columns : List Column) (done : List ℕ) (name : List ℕ) (p : ℕ) → key_place columns done name ≡ Some p → (p < length columns) × (none_is p done ≡ true)
place_ok columns done name p e = by (column_place name columns) refl e
  where
    new : (k : ℕ) (b : Bool) → none_is k done ≡ b → k < length columns → cond b (Some k) None ≡ Some p → (p < length columns) × (none_is p done ≡ true)
    new k false t lt e = cc
    new k true t lt e = let same : k ≡ p = cc in subst (λ (q : ℕ). (q < length columns) × (none_is q done ≡ true)) same (lt, t)

    by : (o : Option ℕ) → column_place name columns ≡ o → option_and_then (place_if_new done) o ≡ Some p → (p < length columns) × (none_is p done ≡ true)
    by None is e = cc
    by (Some k) is e = new k (none_is k done) refl (within columns k is) e
      where
        within : (cs : List Column) (k : ℕ) → position (λ c. same_text c.name name) cs ≡ Some k → k < length cs
        within [] k is = cc
        within (c ∷ cs) k is = (position-Some (λ c. same_text c.name name) (c ∷ cs) k c is).0

places_keep : (channel : List ℕ) (columns : List Column) (done : List ℕ) (n : ℕ) (names : List (List ℕ)) (ps : List ℕ) → key_after channel columns done names ≡ Ok ps → Places (length columns) n done → Places (length columns) (n + length names) ps
places_keep channel columns done n [] ps e is = let same : done ≡ ps = cc in subst (Places (length columns) (n + 0)) same (record { below = is.below; distinct = is.distinct; counted = omega (arith, is.counted) })
places_keep channel columns done n (name ∷ names) ps e is =
    let s0 = bind_ok (some_or (fault.BadKey channel) (key_place columns done name)) (λ p. key_after channel columns (done ++ p ∷ []) names) ps e in
    let p = s0.0 in
    let new = place_ok columns done name p (some_or_ok (fault.BadKey channel) (key_place columns done name) p s0.1) in
    let grown : Places (length columns) (n + 1) (done ++ p ∷ []) = record {
      below = below_last (length columns) done p is.below new.0;
      distinct = distinct_last done p is.distinct new.1;
      counted = length-append done (p ∷ []) ∙ omega (arith, is.counted);
    } in
    let rest = places_keep channel columns (done ++ p ∷ []) (n + 1) names ps s0.2 grown in
    record { below = rest.below; distinct = rest.distinct; counted = omega (arith, rest.counted) }

pub key_ok : (channel : List ℕ) (columns : List Column) (names : List (List ℕ)) (ps : List ℕ) → key_of channel columns names ≡ Ok ps → Places (length columns) (length names) ps × (1 ≤ length names)
key_ok channel columns names ps e =
    let s0 = bind_ok (at_least_one (fault.BadKey channel) names) (λ _. key_after channel columns [] names) ps e in
    let all = places_keep channel columns [] 0 names ps s0.2 (record { below = refl; distinct = refl; counted = refl }) in
    (record { below = all.below; distinct = all.distinct; counted = omega (arith, all.counted) }, some_item (fault.BadKey channel) names s0.0 s0.1)

pub record Good (s : Shape) : Type 0 where
  pub shape : IsShape s
  pub columns : Each IsColumn s.columns
  pub once : EachOnce (λ a b. same_text a.name b.name) s.columns

fits : (cs : List Column) (ps : List ℕ) → 1 ≤ length cs → length cs ≤ 32 → 1 ≤ length ps → length ps ≤ 8 → all_below (length cs) ps ≡ true → all_distinct ps ≡ true → is_shape (record { columns = cs; key = ps }) ≡ true
fits cs ps a b c d e f =
    let p : nat_lt 0 (length cs) ≡ true = grind (arith, nat_tests) in
    let q : nat_le (length cs) 32 ≡ true = grind (arith, nat_tests) in
    let r : nat_lt 0 (length ps) ≡ true = grind (arith, nat_tests) in
    let s : nat_le (length ps) 8 ≡ true = grind (arith, nat_tests) in
    rw (p, q, r, s, e, f)

pub within_limit : (n limit : ℕ) → nat_le n limit ≡ true → n ≤ limit
within_limit n limit e = grind (arith, nat_tests)

schema_made : (channel : List ℕ) (columns key : List (List ℕ)) (cs : List Column) (places : List ℕ) (u v : Unit {0})
    → at_most (codes "columns") 32 (length columns) ≡ Ok u → columns_of channel columns ≡ Ok cs → at_most (codes "key") 8 (length key) ≡ Ok v → key_of channel cs key ≡ Ok places
    → Good (record { columns = cs; key = places })
schema_made channel columns key cs places u v wide named deep keyed =
    let few : length columns ≤ 32 = within_limit (length columns) 32 (require_ok (fault.TooMany (codes "columns")) (nat_le (length columns) 32) u wide) in
    let short : length key ≤ 8 = within_limit (length key) 8 (require_ok (fault.TooMany (codes "key")) (nat_le (length key) 8) v deep) in
    let c = columns_ok channel columns cs named in
    let p = key_ok channel cs key places keyed in
    record {
      shape = shape_from_test (record { columns = cs; key = places }) (fits cs places (omega (arith, c.1, c.0.counted)) (omega (arith, c.0.counted)) (omega (arith, p.1, p.0.counted)) (omega (arith, p.0.counted)) p.0.below p.0.distinct);
      columns = c.0.each;
      once = c.0.once;
    }

schema_ok : (channel : List ℕ) (columns key : List (List ℕ)) (s : Shape) → schema_of channel columns key ≡ Ok s → Good s
schema_ok channel columns key s e =
    through (Good s) (at_most (codes "columns") 32 (length columns)) (λ _. columns_of channel columns >>= λ cs. at_most (codes "key") 8 (length key) >>= λ _. key_of channel cs key >>= λ places. Ok (record { columns = cs; key = places })) s e (λ u0 h0 e0.
    through (Good s) (columns_of channel columns) (λ cs. at_most (codes "key") 8 (length key) >>= λ _. key_of channel cs key >>= λ places. Ok (record { columns = cs; key = places })) s e0 (λ cs h1 e1.
    through (Good s) (at_most (codes "key") 8 (length key)) (λ _. key_of channel cs key >>= λ places. Ok (record { columns = cs; key = places })) s e1 (λ u2 h2 e2.
    through (Good s) (key_of channel cs key) (λ places. Ok (record { columns = cs; key = places })) s e2 (λ places h3 e3.
    subst Good (ok_ok (record { columns = cs; key = places }) s e3) (schema_made channel columns key cs places u0 u2 h0 h1 h2 h3)
    ))))

-- a channel as it is declared, its writer not yet told
pub record Declared (c : Channel) : Type 0 where
  pub name : is_name c.name ≡ true
  pub schema : Good c.schema

named_ok : (done : List Channel) (name n : List ℕ) → new_channel done name ≡ Ok n → (is_name n ≡ true) × (channel_place n done ≡ None)
named_ok done name n e = by (is_name name && not (is_some (channel_place name done))) refl e
  where
    by : (b : Bool) → (is_name name && not (is_some (channel_place name done))) ≡ b → (if b then Ok name else Err (fault.BadName (kept name))) ≡ Ok n → (is_name n ≡ true) × (channel_place n done ≡ None)
    by false t e = cc
    by true t e =
        let same : name ≡ n = cc in
        let (is, new) = and_parts (is_name name) (not (is_some (channel_place name done))) t in
        subst (λ (m : List ℕ). (is_name m ≡ true) × (channel_place m done ≡ None)) same (is, not_some (channel_place name done) new)

-- what a channel that is read is
abbrev ChannelOk : List Channel → Channel → Type 0
ChannelOk done c = Declared c × (channel_place c.name done ≡ None)

channel_ok : (done : List Channel) (d : Data) (c : Channel) → channel_of done d ≡ Ok c → ChannelOk done c
channel_ok done d c e =
    through (ChannelOk done c) (only channel_keys d) (λ _. text_needed (codes "name") d >>= λ stated. texts_needed (codes "columns") d >>= λ columns. texts_needed (codes "key") d >>= λ key. new_channel done stated >>= λ name. schema_of name columns key >>= λ schema. Ok (record { name = name; schema = schema; writer = None; based = false })) c e (λ u0 h0 e0.
    through (ChannelOk done c) (text_needed (codes "name") d) (λ stated. texts_needed (codes "columns") d >>= λ columns. texts_needed (codes "key") d >>= λ key. new_channel done stated >>= λ name. schema_of name columns key >>= λ schema. Ok (record { name = name; schema = schema; writer = None; based = false })) c e0 (λ stated h1 e1.
    through (ChannelOk done c) (texts_needed (codes "columns") d) (λ columns. texts_needed (codes "key") d >>= λ key. new_channel done stated >>= λ name. schema_of name columns key >>= λ schema. Ok (record { name = name; schema = schema; writer = None; based = false })) c e1 (λ columns h2 e2.
    through (ChannelOk done c) (texts_needed (codes "key") d) (λ key. new_channel done stated >>= λ name. schema_of name columns key >>= λ schema. Ok (record { name = name; schema = schema; writer = None; based = false })) c e2 (λ key h3 e3.
    through (ChannelOk done c) (new_channel done stated) (λ name. schema_of name columns key >>= λ schema. Ok (record { name = name; schema = schema; writer = None; based = false })) c e3 (λ name h4 e4.
    through (ChannelOk done c) (schema_of name columns key) (λ schema. Ok (record { name = name; schema = schema; writer = None; based = false })) c e4 (λ schema h5 e5.
    let new = named_ok done stated name h4 in
    subst (ChannelOk done) (ok_ok (record { name = name; schema = schema; writer = None; based = false }) c e5) (record { name = new.0; schema = schema_ok name columns key schema h5 }, new.1)
    ))))))

pub record Channels (count : ℕ) (cs : List Channel) : Type 0 where
  pub each : Each (λ k c. Declared c) cs
  pub once : EachOnce (λ a b. same_text a.name b.name) cs
  pub counted : length cs ≡ count

channels_keep : (done : List Channel) (n : ℕ) (ds : List Data) (cs : List Channel) → channels_after done ds ≡ Ok cs → Channels n done → Channels (n + length ds) cs
channels_keep done n [] cs e is = let same : done ≡ cs = cc in subst (Channels (n + 0)) same (record { each = is.each; once = is.once; counted = omega (arith, is.counted) })
channels_keep done n (d ∷ ds) cs e is =
    let s0 = bind_ok (channel_of done d) (λ c. channels_after (done ++ c ∷ []) ds) cs e in
    let c = s0.0 in
    let new = channel_ok done d c s0.1 in
    let grown : Channels (n + 1) (done ++ c ∷ []) = record {
      each = each_push (λ k x. Declared x) done c is.each new.0;
      once = once_push (λ a b. same_text a.name b.name) done c is.once new.1 (same_itself c.name);
      counted = length-append done (c ∷ []) ∙ omega (arith, is.counted);
    } in
    let rest = channels_keep (done ++ c ∷ []) (n + 1) ds cs s0.2 grown in
    record { each = rest.each; once = rest.once; counted = omega (arith, rest.counted) }

pub channels_ok : (ds : List Data) (cs : List Channel) → channels_of ds ≡ Ok cs → Channels (length ds) cs
channels_ok ds cs e =
    let all = channels_keep [] 0 ds cs e (record { each = λ k x e. cc; once = λ k x e. cc; counted = refl }) in
    record { each = all.each; once = all.once; counted = omega (arith, all.counted) }
