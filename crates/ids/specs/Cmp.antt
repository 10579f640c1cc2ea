-- The order of texts.
use Rattle.std.specs.declared.cmp.Ordering.{Ordering}
use Rattle.std.specs.declared.cmp.Ordering.TheVariants.{Less, Equal, Greater}
use Rattle.std.specs.Prelude.{ℕ, List, [], ◌∷◌, Bool, true, false, ◌&&◌, cond, ltb, eqb}

-- by the first byte that differs; a text comes before those that extend it
unfoldable pub cmp : List ℕ → List ℕ → Ordering
cmp [] [] = Equal
cmp [] (y ∷ b) = Less
cmp (x ∷ a) [] = Greater
cmp (x ∷ a) (y ∷ b) = cond (ltb x y) Less (cond (ltb y x) Greater (cmp a b))

-- the same bytes, and as many
unfoldable pub equal : List ℕ → List ℕ → Bool
equal [] [] = true
equal [] (y ∷ b) = false
equal (x ∷ a) [] = false
equal (x ∷ a) (y ∷ b) = eqb x y && equal a b
