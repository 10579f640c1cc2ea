-- What an operation answers: a refusal's number alone, or a value. Definitions only.
use Rattle.std.specs.Prelude.{ℕ, Result, Ok, Err}
use Rattle.refusals.specs.declared.refusal.Refusal.{Refusal}
use Rattle.refusals.specs.Refusal.{refusal_number}

pub data Answer (A : Type 0) : Type 0 where
  refused : ℕ → Answer A
  given : A → Answer A

-- the number, or the value
abbrev pub answer_of : {A : Type 0} → Result A Refusal → Answer A
answer_of (Ok x) = given x
answer_of (Err refusal) = refused (refusal_number refusal)

-- the refusal's number, or 0
abbrev pub number_of : {A : Type 0} → Answer A → ℕ
number_of (refused n) = n
number_of (given x) = 0

-- the value, or what was there before
abbrev pub value_or : {A : Type 0} → A → Answer A → A
value_or old (refused n) = old
value_or old (given x) = x
