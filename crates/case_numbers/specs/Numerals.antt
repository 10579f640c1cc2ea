-- The numbers of the case language that have no sign.
use Rattle.std.specs.Prelude.{ℕ, cond, List, ltb, length, Option, None, Some}
use Rattle.case_digits.specs.Digits.{spelled_of}

-- a number that 32 bits hold
abbrev pub below_of : Option ℕ → Option ℕ
below_of (Some n) = cond (ltb 4294967295 n) None (Some n)
below_of None = None

-- a count, an index, a sequence, a schedule second or a date
abbrev pub number_of : List ℕ → Option ℕ
number_of s = below_of (spelled_of 10 10 s)

-- the bits of an f64: sixteen digits
abbrev pub double_of : List ℕ → Option ℕ
double_of s = cond (ltb (length s) 16) None (spelled_of 16 16 s)

-- the bits of an f32: eight digits
abbrev pub single_of : List ℕ → Option ℕ
single_of s = cond (ltb (length s) 8) None (below_of (spelled_of 16 8 s))
