-- Kinds of bytes, and upper case.
use Rattle.std.specs.Prelude.{ℕ, ◌-◌, Bool, true, false, ◌&&◌, ◌||◌, cond, leb, eqb}
use Rattle.ids.specs.declared.byte.Kind.{Kind}
use Rattle.ids.specs.declared.byte.Kind.TheVariants.{Byte, Digit, Alnum}

-- '0' to '9'
abbrev pub is_digit : ℕ → Bool
is_digit b = leb 48 b && leb b 57

-- 'a' to 'z' become 'A' to 'Z'; any other byte stays
unfoldable pub upper_of : ℕ → ℕ
upper_of b = cond (leb 97 b && leb b 122) (b - 32) b

-- a digit, or a letter: its upper case is 'A' to 'Z'
unfoldable pub is_alnum : ℕ → Bool
is_alnum b = is_digit b || (leb 65 (upper_of b) && leb (upper_of b) 90)

-- a byte of the kind
abbrev pub is_of : Kind → ℕ → Bool
is_of (Byte x) = λ b. eqb b x
is_of Digit = is_digit
is_of Alnum = is_alnum

-- a byte as it is compared and written: in upper case, or as it is
abbrev pub fold_of : Bool → ℕ → ℕ
fold_of true = upper_of
fold_of false = λ b. b
