-- Horner sums, and the rules of document 01 for the coefficients. Each operation is rounded once to binary64. Definitions only.
use Rattle.std.specs.Prelude.{ℕ, zero, suc, ◌+◌, ◌-◌, ◌*◌, pos, Float}
use Rattle.std.specs.Float.{binary64}
use Rattle.std.specs.Float.Ieee.{of_int, neg, add, mul, div}

-- the whole number n as a float
abbrev pub whole : ℕ → Float
whole n = of_int binary64 (pos n)

abbrev pub step : Float → Float → Float → Float
step acc z c = add binary64 (mul binary64 acc z) c

-- from the sum acc on, with the coefficients k - 1 down to 0
unfoldable pub on_from : (ℕ → Float) → Float → ℕ → Float → Float
on_from c z zero acc = acc
on_from c z (suc k) acc = on_from c z k (step acc z (c k))

-- by Horner, from coefficient n down to 0
unfoldable pub horner : (ℕ → Float) → Float → ℕ → Float
unfolding on_from
horner c z n = on_from c z n (c n)

-- c0 = 1, cj = -c(j-1) / (2j(2j+1))
unfoldable pub sin_c : ℕ → Float
unfolding of_int neg div
sin_c zero = whole 1
sin_c (suc j) = div binary64 (neg (sin_c j)) (whole (2 * suc j * (2 * suc j + 1)))

-- c0 = 1, cj = -c(j-1) / ((2j-1)(2j))
unfoldable pub cos_c : ℕ → Float
unfolding of_int neg div
cos_c zero = whole 1
cos_c (suc j) = div binary64 (neg (cos_c j)) (whole ((2 * suc j - 1) * (2 * suc j)))

-- (-1)^j
unfoldable pub sign_of : ℕ → Float
unfolding of_int neg
sign_of zero = whole 1
sign_of (suc j) = neg (sign_of j)

-- (-1)^j / (2j+1)
unfoldable pub atan_c : ℕ → Float
unfolding sign_of of_int div
atan_c j = div binary64 (sign_of j) (whole (2 * j + 1))
