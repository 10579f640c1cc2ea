-- The number that hexadecimal digits stand for.
use Rattle.std.specs.Prelude.{ℕ, zero, suc, ◌+◌, ◌*◌, ◌-◌, cond, List, ltb, get_or}

-- the value of '0' to '9' and of 'a' to 'f', and 0 of any other byte
unfoldable pub digit_of : ℕ → ℕ
digit_of b = cond (ltb b 48) 0 (cond (ltb b 58) (b - 48) (cond (ltb b 97) 0 (cond (ltb b 103) (b - 87) 0)))

-- the number that the first n digits stand for; one that is missing counts as 0
unfoldable pub hex_of : ℕ → List ℕ → ℕ
hex_of zero s = 0
hex_of (suc k) s = hex_of k s * 16 + digit_of (get_or s k 0)
