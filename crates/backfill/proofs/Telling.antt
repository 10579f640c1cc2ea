-- The unit of a trip's distances, from its first and its last sample. Assumes nothing.
use Rattle.std.specs.Prelude.{Option}
use Rattle.std.proofs.Common.{◌≡◌, ℕ, suc, ◌+◌, ◌-◌, ◌<◌, ◌≤◌, List, [], ◌∷◌, length, get_or, drop, refl, arith, le-ltb}
use mathlib.Core.List.{foldl, foldl-append}
use lib.Ieee.{Float}
use Rattle.lengths.specs.declared.line.Point.{Point}
use Rattle.calibration.specs.Samples.{no_sample, samples_affine}
use Rattle.calibration.specs.declared.affine.Sample.{Sample}
use Rattle.trip_vertices.specs.Vertices.{positions_from}
use Rattle.row_distances.specs.Rows.{rows_of}
use Rattle.backfill.specs.Samples.{added_end, ends_of, ends_unit, feed_unit, next_ends, samples_in}
use Rattle.backfill.specs.declared.ends.Ends.{Ends}
use Rattle.backfill.specs.declared.ends.Ends.TheVariants.{Nothing, Both}
use Rattle.row_distances.specs.declared.row.Distance.{Distance}
use Rattle.row_distances.proofs.Columns.{rows_from}

-- a loop over the rows: what is still to be added
module _ (position : ℕ → Option Point) (first n : ℕ) (ds : List Float) (ms : List ℕ) where
  abbrev pub added : Ends → ℕ → Ends
  added ends k = foldl added_end ends (samples_in (positions_from position (first + k) (n - k)) (drop k (rows_of ds ms)))

  pub from_none : ends_of (samples_in (positions_from position first n) (rows_of ds ms)) ≡ added Nothing 0
  from_none = let z : first + 0 ≡ first = omega arith in let m : n - 0 ≡ n = omega arith in rw (z, m)

  pub one_more : (ends : Ends) (k : ℕ) (x : Float) → k < n → n ≡ length ds → n ≡ length ms → {stop : Option Point} → stop ≡ position (first + k) → {after : Ends} →
      after ≡ next_ends ends stop (record { dist = get_or ds k x; measured = get_or ms k 0 }) → added ends k ≡ added after (k + 1)
  unfolding positions_from samples_in next_ends
  one_more ends k x h d m {stop} s e =
      let i : n - k ≡ suc (n - (k + 1)) = omega arith in
      let j : suc (first + k) ≡ first + (k + 1) = omega arith in
      let l : suc k ≡ k + 1 = omega arith in
      rw (i, rows_from ds ms k x (omega arith) (omega arith), j, l, ← s, foldl-append, ← e)

  pub no_more : (ends : Ends) (k : ℕ) → n ≤ k → added ends k ≡ ends
  unfolding positions_from samples_in
  no_more ends k h = let i : n - k ≡ 0 = omega arith in rw i

-- the first and the last sample tell what all do
ends_last : (f s : Sample) (ss : List Sample) → foldl added_end (Both f s) ss ≡ Both f (get_or (s ∷ ss) (length ss) no_sample)
ends_last f s [] = refl
ends_last f s (t ∷ ss) = ends_last f t ss

pub ends_tell : (line : List Point) (samples : List Sample) → ends_unit line (ends_of samples) ≡ feed_unit (samples_affine line samples)
unfolding samples_affine
ends_tell line [] = refl
ends_tell line (s ∷ []) = refl
ends_tell line (f ∷ s ∷ ss) =
    let i : suc (suc (length ss)) - 1 ≡ suc (length ss) = omega arith in
    rw (ends_last f s ss, le-ltb (suc (suc (length ss))) 2 (omega arith), i)
