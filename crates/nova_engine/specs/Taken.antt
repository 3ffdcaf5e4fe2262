-- How a workflow's text is taken from the source.
use Rattle.std.specs.Prelude.{◌≡◌, ℕ, ◌≤◌, List, [], ◌++◌, length, Option, Some}
use Rattle.nova_runner.specs.Texts.{HasFault, HasFlow}
use Rattle.nova_runner.specs.declared.text.TextFault.{TextFault}
use Rattle.nova_machine.specs.Workflow.{Workflow}

-- The call took the first bytes of the input, at most one more than a text may have, and these are left.
pub record TookText (input : List ℕ) (left : Option (List ℕ)) (taken : List ℕ) : Type 0 where
  pub rest : List ℕ
  pub left_is : left ≡ Some rest
  pub input_is : input ≡ taken ++ rest
  pub bound : length taken ≤ 1048577

-- They are the text: nothing is left of one that isn't too long.
pub record ReadText (input : List ℕ) (left : Option (List ℕ)) (text : List ℕ) : Type 0 where
  pub took : TookText input left text
  pub whole : length text ≤ 1048576 → left ≡ Some []

-- so the text that was read says what the whole input says
abbrev pub TextsAreInputs : Type 0
TextsAreInputs = (input : List ℕ) (left : Option (List ℕ)) (text : List ℕ) → ReadText input left text →
    ((w : Workflow) → HasFlow text w → text ≡ input) × ((why : TextFault) → HasFault text why → HasFault input why)
