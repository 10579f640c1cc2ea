-- The signed numbers of the case language.
use Rattle.std.specs.Prelude.{ℕ, Bool, true, false, cond, List, ltb, eqb, ℤ, pos, ◌-ℤ◌, drop, get_or, Option, None, Some}
use Rattle.case_digits.specs.Digits.{spelled_of}

-- a number up to `most`, negated where there is a minus
abbrev pub with_sign : Option ℕ → Bool → ℕ → Option ℤ
with_sign (Some n) minus most = cond (ltb most n) None (Some (cond minus (pos 0 -ℤ pos n) (pos n)))
with_sign None minus most = None

-- whether a text begins with a minus
abbrev pub is_negative : List ℕ → Bool
is_negative s = eqb (get_or s 0 0) 45

-- up to so many digits, after a minus or not, from -least to `most`
abbrev pub signed_of : ℕ → ℕ → ℕ → List ℕ → Option ℤ
signed_of digits least most s = cond (is_negative s) (with_sign (spelled_of 10 digits (drop 1 s)) true least) (with_sign (spelled_of 10 digits s) false most)

-- a moment or the offset
abbrev pub moment_of : List ℕ → Option ℤ
moment_of s = signed_of 18 999999999999999999 999999999999999999 s

-- a delay
abbrev pub delay_of : List ℕ → Option ℤ
delay_of s = signed_of 10 2147483648 2147483647 s
