-- The order of texts is that of std's slices.
use Rattle.std.proofs.Common.{◌≡◌, ℕ, List, [], ◌∷◌, refl, ap, ◌∙◌, cond, ltb, arith}
use Rattle.std.proofs.lemmas.Bool.Decides.{nat_tests}
use Rattle.std.specs.Ordering.{nat_cmp, ordering_then}
use Rattle.std.specs.Cmp.Lexicographic.{slice_cmp}
use Rattle.std.specs.declared.cmp.Ordering.{Ordering}
use Rattle.std.specs.declared.cmp.Ordering.TheVariants.{Less, Equal, Greater}
use Rattle.ids.specs.Cmp.{cmp}

step : (x y : ℕ) (o : Ordering) → ordering_then (nat_cmp x y) o ≡ cond (ltb x y) Less (cond (ltb y x) Greater o)
step x y o = grind (arith, nat_tests)

pub cmp_is : (a b : List ℕ) → slice_cmp nat_cmp a b ≡ cmp a b
unfolding cmp
cmp_is [] [] = refl
cmp_is [] (y ∷ b) = refl
cmp_is (x ∷ a) [] = refl
cmp_is (x ∷ a) (y ∷ b) = ap (ordering_then (nat_cmp x y)) (cmp_is a b) ∙ step x y (cmp a b)
