-- Words of the texts of a workflow. Byte 32 is a space.
use Rattle.std.specs.Prelude.{ℕ, Bool, not, ◌&&◌, ◌==◌, if◌then◌else◌, List, length, Option, Some, None, codes}
use Rattle.std.specs.List.{list_all, before_first, after_first}
use Rattle.nova_value.specs.declared.value.Kind.{Kind}
use Rattle.nova_value.specs.declared.value.Kind.TheVariants as kind
use Rattle.nova_name.specs.Names.{is_name}
use Rattle.nova_name.specs.Keywords.{same_text}

-- the name that a fault keeps: one that is no name is kept as `?`
abbrev pub kept : List ℕ → List ℕ
kept text = if is_name text then text else codes "?"

abbrev pub is_spaceless : List ℕ → Bool
is_spaceless text = list_all (λ b. not (b == 32)) text

-- a word isn't empty and holds no space
abbrev pub is_word : List ℕ → Bool
is_word text = not (length text == 0) && is_spaceless text

-- two words parted by one space
abbrev pub two_words : List ℕ → Option (List ℕ × List ℕ)
two_words text =
    let first = before_first (λ b. b == 32) text in
    let second = after_first (λ b. b == 32) text in
    if is_word first && is_word second then Some (first, second) else None

-- `int` is another spelling of `long`
abbrev pub kind_of : List ℕ → Option Kind
kind_of word =
    if same_text word (codes "long") then Some kind.Long else
    (if same_text word (codes "int") then Some kind.Long else
    (if same_text word (codes "chararray") then Some kind.Text else None))
