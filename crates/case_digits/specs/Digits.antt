-- What digits spell.
use Rattle.std.specs.Prelude.{ℕ, ◌+◌, ◌*◌, ◌-◌, cond, List, [], ◌∷◌, ltb, length, Option, None, Some}
use Rattle.std.specs.Option.{option_and_then}

-- what a digit is worth, 0 to 9 and a to f; 16 for any other byte
abbrev pub digit_of : ℕ → ℕ
digit_of b = cond (ltb b 48) 16 (cond (ltb b 58) (b - 48) (cond (ltb b 97) 16 (cond (ltb b 103) (b - 87) 16)))

-- the same, where it is below the base
abbrev pub digit_below : ℕ → ℕ → Option ℕ
digit_below base b = let d = digit_of b in cond (ltb d base) (Some d) None

-- what digits of a base spell, after others that spell v
unfoldable pub spelled_from : ℕ → ℕ → List ℕ → Option ℕ
spelled_from base v [] = Some v
spelled_from base v (b ∷ s) = option_and_then (λ d. spelled_from base (v * base + d) s) (digit_below base b)

-- what one digit or more, and no more than `most`, spell
unfoldable pub spelled_of : ℕ → ℕ → List ℕ → Option ℕ
spelled_of base most s = cond (ltb 0 (length s)) (cond (ltb most (length s)) None (spelled_from base 0 s)) None
