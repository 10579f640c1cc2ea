-- What is passed over changes nothing: a distance that is not within the slack of the least is not less. Assumes nothing.
use mathlib.Core.Path.{◌≡◌}
use mathlib.Core.Bool.{false}
use lib.Dec.{T}
use lib.Ieee.{Float, binary64, of_int, add, lt, eq, le, fits}
use lib.Ieee.Fits.{mul-fits}
use Rattle.floats.proofs.Order.{nought, lt-le, trans_le, le-number_left, le-number_right}
use Rattle.floats.proofs.Sums.{add-number_right, add_up, add_mono}
use Rattle.sphere_lengths.specs.Length.{way_of}
use Rattle.distance_sweep.specs.Nearest.{slack}
use Rattle.vertices_within.proofs.Truth.{no}

not_less : (d best : Float) → T (fits binary64 d) → le d (add binary64 best slack) ≡ false → lt d best ≡ false
unfolding of_int
not_less d best F e = no (lt d best) (λ (h : T (lt d best)). below (lt-le d best h))
  where
    below : T (le d best) → ⊥
    below l =
        let a = add-number_right binary64 d slack (le-number_left d best l) tt in
        let b = add-number_right binary64 best slack (le-number_right d best l) tt in
        let k : T (le nought slack) = unfold le lt eq in tt in
        rw e at (trans_le d (add binary64 d slack) (add binary64 best slack) (add_up binary64 d slack F k a) (add_mono binary64 d best slack a b l))

pub skipped : (best a : Float) → le (way_of a) (add binary64 best slack) ≡ false → lt (way_of a) best ≡ false
skipped best a e = not_less (way_of a) best (mul-fits binary64 _ _) e
