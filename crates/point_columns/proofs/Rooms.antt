-- What an operation that draws answers and writes: refused for its columns, refused for its tables, too short, or drawn. Assumes nothing.
use Prim.Native.Nat.{ℕ, ◌<◌, ◌≤◌}
use native.Mathlib.Omega.{arith}
use mathlib.Core.Path.{◌≡◌, refl, ◌∙◌}
use mathlib.Core.List.{List, ◌++◌}
use borrow.Author.Tests.{eq-eqb, ne_eqb, lt-ltb, le-ltb}
use lib.Ieee.{Float}
use lib.ListN.{length, length-map, drop}
use Rattle.lengths.specs.declared.line.Point.{Point}
use Rattle.std.specs.Prelude.{Result}
use Rattle.std.specs.Result.{IsErrAnd}
use Rattle.refusals.specs.declared.refusal.Refusal.{Refusal}
use Rattle.refusals.specs.Refusal.{refusal_number}
use Rattle.refusals.specs.Answer.{Answer, refused, given, answer_of}
use Rattle.answers.proofs.Told.{numbered, handed}
use Rattle.point_columns.specs.Drawn.{lats_of, lons_of}
use Rattle.point_columns.specs.Answers.{drawing_refusal, drawn_answer, lat_after, lon_after}

-- the answer and both columns are as they are to be
abbrev pub Right : ℕ → List Point → List Float → List Float → Answer ℕ → List Float → List Float → Type 0
Right n points lat₀ lon₀ r lat lon = (r ≡ drawn_answer n points lat₀ lon₀) × ((lat ≡ lat_after n points lat₀ lon₀) × (lon ≡ lon_after n points lat₀ lon₀))

module _ (n : ℕ) (points : List Point) (lat lon : List Float) where
  pub unequal : (length lat ≡ length lon → ⊥) → Right n points lat lon (refused 1) lat lon
  unfolding drawing_refusal drawn_answer lat_after lon_after
  unequal h = (rw (ne_eqb _ _ h), (rw (ne_eqb _ _ h), rw (ne_eqb _ _ h)))

  module _ (e : length lat ≡ length lon) where
    pub denied : (n ≡ 0 → ⊥) → Right n points lat lon (refused n) lat lon
    unfolding drawing_refusal drawn_answer lat_after lon_after
    denied h = (rw (eq-eqb _ _ e, ne_eqb _ _ h, ne_eqb _ _ h), (rw (eq-eqb _ _ e, ne_eqb _ _ h, ne_eqb _ _ h), rw (eq-eqb _ _ e, ne_eqb _ _ h, ne_eqb _ _ h)))

    -- a refusal that `?` hands on, of which n is the number
    pub denied_by : (r : Result ℕ Refusal) (e : Refusal) → IsErrAnd r (λ f. f ≡ e) → refusal_number e ≡ n → Right n points lat lon (answer_of r) lat lon
    denied_by r e h q = rw (handed r e h, q) (denied (λ z. numbered e (q ∙ z)))

    module _ (z : n ≡ 0) where
      pub short : length lat < length points → Right n points lat lon (refused 9) lat lon
      unfolding drawing_refusal drawn_answer lat_after lon_after
      short h = (rw (eq-eqb _ _ e, z, lt-ltb _ _ h), (rw (eq-eqb _ _ e, z, lt-ltb _ _ h), rw (eq-eqb _ _ e, z, lt-ltb _ _ h)))

      pub drawn : length points ≤ length lat → {r : ℕ} → r ≡ length points → {lat' lon' : List Float} →
          lat' ≡ lats_of points ++ drop (length points) lat → lon' ≡ lons_of points ++ drop (length points) lon → Right n points lat lon (given r) lat' lon'
      unfolding drawing_refusal drawn_answer lat_after lon_after
      drawn h i p q =
          (rw (eq-eqb _ _ e, z, le-ltb _ _ h, i), (rw (eq-eqb _ _ e, z, le-ltb _ _ h, length-map, p), rw (eq-eqb _ _ e, z, le-ltb _ _ h, length-map, q)))
