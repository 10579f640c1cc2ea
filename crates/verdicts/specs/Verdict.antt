-- The least refusal so far, as a number.
use Rattle.std.specs.Prelude.{ℕ, Option, None, Some}
use Rattle.refusals.specs.declared.refusal.Refusal.{Refusal}
use Rattle.refusals.specs.Refusal.{refusal_number}
use Rattle.verdicts.specs.declared.verdict.Verdict.{Verdict}

abbrev pub number_or_zero : Option Refusal → ℕ
number_or_zero None = 0
number_or_zero (Some refusal) = refusal_number refusal

-- the number of the least refusal so far, or 0
abbrev pub least : Verdict → ℕ
least verdict = number_or_zero verdict.first
