-- Readers add no tokens.
use Rattle.std.proofs.Common.{◌≡◌, ◌<◌, true, ◌∷◌, length, Option, Some, None, arith}
use Rattle.nova_value.specs.declared.value.Kind.{Kind}
use Rattle.nova_pig_tree.specs.declared.statement.Item.TheVariants as item
use Rattle.nova_pig_tree.specs.declared.token.Token.TheVariants.{Ident, Word, Group, Symbol}
use Rattle.nova_pig_tree.specs.declared.token.Word.TheVariants as w
use Rattle.nova_pig_tree.specs.declared.token.Symbol.TheVariants as s
use Rattle.nova_pig_grammar.specs.Expression.{whole}
use Rattle.nova_pig_grammar.specs.ExpressionReading.{and_then, read, At, field_at}
use Rattle.nova_pig_grammar.proofs.Steps.{bound, same_rest, read-shrinks, field_at-shrinks}
use Rattle.nova_pig_grammar.specs.Statement.{kind_of}
use Rattle.nova_pig_grammar.specs.StatementReading.{some_kind, kind_at, label_at, flatten_at, value_at, item_at, name_at}
use Rattle.nova_pig_grammar.proofs.Lists.{NoLonger}

pub field-no_longer : NoLonger field_at
field-no_longer = field_at-shrinks

pub name-no_longer : NoLonger name_at
name-no_longer (Ident a ∷ ts) x rest eq = let same : ts ≡ rest = same_rest eq in rw (← same) (omega arith)
name-no_longer _ x rest eq = absurd cc

some_kind-no_longer : (o : Option Kind) → NoLonger (some_kind o)
some_kind-no_longer (Some k) ts x rest eq = let same : ts ≡ rest = same_rest eq in rw (← same) (omega arith)
some_kind-no_longer None ts x rest eq = absurd cc

kind-no_longer : NoLonger kind_at
kind-no_longer (Symbol s.Colon ∷ Ident k ∷ ts) x rest eq = let h = some_kind-no_longer (kind_of k) ts x rest eq in omega arith
kind-no_longer (Symbol s.Colon ∷ ts) x rest eq = absurd cc
kind-no_longer ts x rest eq = let same : ts ≡ rest = same_rest eq in rw (← same) (omega arith)

label-no_longer : NoLonger label_at
label-no_longer (Word w.As ∷ Ident a ∷ ts) x rest eq =
    let (y, mid, one, then) = bound (kind_at ts) (λ k us. Some ((Some a, k), us)) eq in
    let same : mid ≡ rest = same_rest then in let h = kind-no_longer ts y mid one in rw (← same) (omega arith)
label-no_longer (Word w.As ∷ ts) x rest eq = absurd cc
label-no_longer ts x rest eq = let same : ts ≡ rest = same_rest eq in rw (← same) (omega arith)

value-no_longer : NoLonger value_at
value-no_longer ts x rest eq =
    let (y, mid, one, then) = bound (read (At whole) ts) (λ x us. and_then (label_at us) (λ l vs. Some (item.Value x l.0 l.1, vs))) eq in
    let (z, end, two, last) = bound (label_at mid) (λ l vs. Some (item.Value y l.0 l.1, vs)) then in
    let a : length mid < length ts = read-shrinks (At whole) ts y mid one in
    let b = label-no_longer mid z end two in
    let same : end ≡ rest = same_rest last in rw (← same) (omega arith)

flatten-no_longer : NoLonger flatten_at
flatten-no_longer (Symbol s.Open ∷ Group true ∷ Symbol s.Close ∷ ts) x rest eq = let same : ts ≡ rest = same_rest eq in rw (← same) (omega arith)
flatten-no_longer _ x rest eq = absurd cc

pub item-no_longer : NoLonger item_at
item-no_longer (Symbol s.Star ∷ ts) x rest eq = let same : ts ≡ rest = same_rest eq in rw (← same) (omega arith)
item-no_longer (Word w.Flatten ∷ ts) x rest eq = let h = flatten-no_longer ts x rest eq in omega arith
item-no_longer ts x rest eq = value-no_longer ts x rest eq
