-- What is written of an answer, for C. Definitions only.
use Rattle.std.specs.Prelude.{ℕ, Bool, true, false, Option, Some, None}
use Rattle.refusals.specs.Answer.{Answer, refused, given}

-- the trip's row, or what was there before
abbrev pub row_or : ℕ → Answer (Option ℕ) → ℕ
row_or old (given (Some k)) = k
row_or old (given None) = old
row_or old (refused n) = old

-- 1 where a service runs and 0 where it does not, or what was there before
abbrev pub runs_or : ℕ → Answer Bool → ℕ
runs_or old (given true) = 1
runs_or old (given false) = 0
runs_or old (refused n) = old
