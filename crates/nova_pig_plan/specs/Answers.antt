-- Answers that are a value or the first fault.
use Rattle.std.specs.Prelude.{◌≡◌, Bool, true, false, Result, Ok, Err}
use Rattle.nova_pig_plan.specs.declared.fault.Cause.{Cause}
use Rattle.nova_pig_plan.specs.declared.fault.Stop.{Stop}
use Rattle.nova_pig_plan.specs.declared.fault.Stop.TheVariants.{Fault, NoMemory}

abbrev pub Answer : Type 0 → Type 0
Answer A = Result A Cause

-- the first part, and where it has no fault what is made of it
abbrev pub first : {A B : Type 0} → Answer A → (A → Answer B) → Answer B
first (Ok x) next = next x
first (Err c) next = Err c

-- both parts, from left to right
abbrev pub both : {A B C : Type 0} → Answer A → Answer B → (A → B → Answer C) → Answer C
both a b next = first a (λ x. first b (next x))

-- the value where the test holds, and otherwise the fault
abbrev pub if_not : {A : Type 0} → Cause → Bool → A → Answer A
if_not cause true x = Ok x
if_not cause false x = Err cause

-- a call answers as defined, or finds no memory
abbrev pub AnswersBy : {A B : Type 0} → (A → B) → Result A Stop → Answer B → Type 0
AnswersBy view (Ok x) answer = answer ≡ Ok (view x)
AnswersBy view (Err (Fault c)) answer = answer ≡ Err c
AnswersBy view (Err NoMemory) answer = Unit {0}

abbrev pub AnswersAs : {A : Type 0} → Result A Stop → Answer A → Type 0
AnswersAs r answer = AnswersBy (λ x. x) r answer
