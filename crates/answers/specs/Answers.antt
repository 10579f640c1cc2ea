-- What a published operation answers, and what it writes.
use Rattle.std.specs.Prelude.{ℕ, cond, List, ◌++◌, eqb, ltb, length, drop}
use Rattle.refusals.specs.Answer.{Answer, refused, given}

-- a refusal's number, or, where there is none, the value
abbrev pub unless_refused : {A : Type 0} → ℕ → A → Answer A
unless_refused n x = cond (eqb n 0) (given x) (refused n)

-- a refusal's number, or, where there is none, 9 where the output has fewer rows than are to be written
abbrev pub or_short : ℕ → ℕ → ℕ → ℕ
or_short n rows room = cond (eqb n 0) (cond (ltb room rows) 9 0) n

-- the output: the rows from its beginning on, and the others as they were; where there is a refusal, all as they were
abbrev pub unless_kept : {A : Type 0} → ℕ → List A → List A → List A
unless_kept n rows out = cond (eqb n 0) (rows ++ drop (length rows) out) out
