-- A byte as % and two digits.
use Rattle.std.specs.Prelude.{ℕ, ◌+◌, ◌/◌, ◌%◌, cond, List, [], ◌∷◌, ltb}

-- the byte that a digit is written as
abbrev pub glyph_of : ℕ → ℕ
glyph_of d = cond (ltb d 10) (48 + d) (87 + d)

abbrev pub escape_of : ℕ → List ℕ
escape_of b = 37 ∷ glyph_of (b / 16) ∷ glyph_of (b % 16) ∷ []
