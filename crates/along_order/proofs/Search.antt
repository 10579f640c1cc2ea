-- A farther target meets no earlier stretch, and on the same stretch no smaller a fraction; a target on none comes last. Assumes nothing.
use Prim.Native.Nat.{ℕ, zero, suc, ◌+◌, ◌<◌, ◌≤◌}
use native.Mathlib.Omega.{arith}
use mathlib.Core.Path.{◌≡◌, refl, sym, subst}
use mathlib.Core.Logic.{◌⊎◌, inl, inr}
use mathlib.Core.Bool.{Bool, true, false, true≢false, not, ◌&&◌, cond}
use lib.Dec.{T}
use lib.Ieee.{Float, binary64, add, le, fits}
use lib.Ieee.Fits.{and_i, and_r}
use Rattle.floats.specs.Number.{nought}
use Rattle.floats.proofs.Order.{finite_number, le-number_right, trans_le, lt-le, not_le-lt}
use Rattle.floats.proofs.Sums.{add_nonneg, add_up}
use Rattle.first_stretch.specs.Search.{meets, fraction_of, first_met}
use Rattle.line_parts.specs.declared.part.Part.{Part}
use Rattle.stretches.specs.declared.spot.Spot.{Spot}
use Rattle.stretches.specs.declared.spot.Spot.TheVariants.{Stretch, NoStretch}
use Rattle.along_order.specs.Order.{rank_of, fraction_at}
use Rattle.along_order.proofs.Clamp.{zero_zero, Aim, fraction_mono}

-- in the order of the vertices
abbrev pub Before : Part → Spot → Spot → Type 0
Before part p q = (rank_of part p < rank_of part q) ⊎ ((rank_of part p ≡ rank_of part q) × T (le (fraction_at p) (fraction_at q)))

-- lengths that are held by the format, at least zero, and do not fall over n stretches
pub record Rising (sums : ℕ → Float) (n : ℕ) : Type 0 where
  pub held : (j : ℕ) → T (fits binary64 (sums j))
  pub sign : (j : ℕ) → j ≤ n → T (le nought (sums j))
  pub rise : (j : ℕ) → j < n → T (le (sums j) (sums (suc j)))

not_and : (a b : Bool) → T a → T (not (a && b)) → T (not b)
not_and true b t h = h
not_and false b t h = absurd t

module _ (part : Part) (sums : ℕ → Float) (tolerance : Float) (slack : T (le nought tolerance)) where
  -- no stretch is found before the one where the search begins
  pub from : (u : Float) (m j : ℕ) → part.first + (j + m) ≤ part.last → part.first + j < rank_of part (first_met sums part.first tolerance u j m)
  unfolding first_met
  from u zero j h = omega arith
  from u (suc m) j h = go (meets tolerance u (sums j) (sums (suc j))) (from u m (suc j) (omega arith))
    where
      go : (b : Bool) → part.first + suc j < rank_of part (first_met sums part.first tolerance u (suc j) m) →
          part.first + j < rank_of part (cond b (Stretch (part.first + j) (fraction_of u (sums j) (sums (suc j)))) (first_met sums part.first tolerance u (suc j) m))
      go true k = omega arith
      go false k = omega arith

  -- a stretch that is found is of the part
  pub in_part : (u : Float) (m j k : ℕ) (t : Float) → part.first + (j + m) ≤ part.last → first_met sums part.first tolerance u j m ≡ Stretch k t → (part.first ≤ k) × (k < part.last)
  unfolding first_met
  in_part u zero j k t h e = absurd (true≢false (cc))
  in_part u (suc m) j k t h e = go (meets tolerance u (sums j) (sums (suc j))) (in_part u m (suc j) k t (omega arith)) e
    where
      go : (b : Bool) → (first_met sums part.first tolerance u (suc j) m ≡ Stretch k t → (part.first ≤ k) × (k < part.last)) →
          cond b (Stretch (part.first + j) (fraction_of u (sums j) (sums (suc j)))) (first_met sums part.first tolerance u (suc j) m) ≡ Stretch k t → (part.first ≤ k) × (k < part.last)
      go true r f = let q : part.first + j ≡ k = cc in (omega arith, omega arith)
      go false r f = r f

  -- what is found is not past the last vertex
  pub upto : (u : Float) (m j : ℕ) → part.first + (j + m) ≤ part.last → Before part (first_met sums part.first tolerance u j m) NoStretch
  unfolding first_met
  upto u zero j h = inr (refl, zero_zero)
  upto u (suc m) j h = go (meets tolerance u (sums j) (sums (suc j))) (upto u m (suc j) (omega arith))
    where
      go : (b : Bool) → Before part (first_met sums part.first tolerance u (suc j) m) NoStretch →
          Before part (cond b (Stretch (part.first + j) (fraction_of u (sums j) (sums (suc j)))) (first_met sums part.first tolerance u (suc j) m)) NoStretch
      go true k = inl (omega arith)
      go false k = k

  module _ (n : ℕ) (rising : Rising sums n) (t u : Float) (a : Aim t) (b : Aim u) (le_tu : T (le t u)) where
    -- past a stretch that it does not meet, a target that was not before its start is not before its end
    goes_on : (j : ℕ) → j < n → T (le (sums j) t) → T (not (meets tolerance t (sums j) (sums (suc j)))) → T (le (sums (suc j)) t)
    unfolding meets
    goes_on j h l f =
        let c = sums (suc j) in
        let s = add_nonneg binary64 c tolerance (rising.sign (suc j) (omega arith)) slack in
        let N = le-number_right nought (add binary64 c tolerance) s in
        trans_le c (add binary64 c tolerance) t (add_up binary64 c tolerance (rising.held (suc j)) slack N)
        (lt-le (add binary64 c tolerance) t
        (not_le-lt t (add binary64 c tolerance) (finite_number t a.bound) N (not_and (le (sums j) t) (le t (add binary64 c tolerance)) l f)))

    -- what the farther meets the nearer does not pass
    met_before : (j : ℕ) → T (le (sums j) t) → T (meets tolerance u (sums j) (sums (suc j))) → T (meets tolerance t (sums j) (sums (suc j)))
    unfolding meets
    met_before j l m =
        let c = add binary64 (sums (suc j)) tolerance in
        and_i (le (sums j) t) (le t c) l (trans_le t u c le_tu (and_r (le (sums j) u) (le u c) m))

    pub search_mono : (m j : ℕ) → j + m ≤ n → part.first + (j + m) ≤ part.last → T (le (sums j) t) →
        Before part (first_met sums part.first tolerance t j m) (first_met sums part.first tolerance u j m)
    unfolding first_met
    search_mono zero j h k l = inr (refl, zero_zero)
    search_mono (suc m) j h k l =
        go (meets tolerance t (sums j) (sums (suc j))) (meets tolerance u (sums j) (sums (suc j))) (met_before j l)
        (λ f. search_mono m (suc j) (omega arith) (omega arith) (goes_on j (omega arith) l f)) (from u m (suc j) (omega arith))
      where
        there : Float → Spot
        there x = Stretch (part.first + j) (fraction_of x (sums j) (sums (suc j)))

        later : Float → Spot
        later x = first_met sums part.first tolerance x (suc j) m

        go : (x y : Bool) → (T y → T x) → (T (not x) → Before part (later t) (later u)) → part.first + suc j < rank_of part (later u) → Before part (cond x (there t) (later t)) (cond y (there u) (later u))
        go true true p q r = inr (refl, fraction_mono t u (sums j) (sums (suc j)) a b (rising.sign j (omega arith)) l le_tu)
        go true false p q r = inl (omega arith)
        go false true p q r = absurd (p tt)
        go false false p q r = q tt

    -- a target that is not past the last sum meets a stretch
    met_last : (j : ℕ) → suc j ≡ n → T (le (sums j) t) → T (le t (sums n)) → T (meets tolerance t (sums j) (sums (suc j)))
    unfolding meets
    met_last j h l o =
        let c = sums (suc j) in
        let s = add_nonneg binary64 c tolerance (rising.sign (suc j) (omega arith)) slack in
        and_i (le (sums j) t) (le t (add binary64 c tolerance)) l
        (trans_le t c (add binary64 c tolerance) (subst (λ (k : ℕ). T (le t (sums k))) (sym h) o)
        (add_up binary64 c tolerance (rising.held (suc j)) slack (le-number_right nought (add binary64 c tolerance) s)))

    pub meets_some : (m j : ℕ) → j + suc m ≡ n → T (le (sums j) t) → T (le t (sums n)) → first_met sums part.first tolerance t j (suc m) ≡ NoStretch → ⊥
    unfolding first_met
    meets_some zero j h l o = go (meets tolerance t (sums j) (sums (suc j))) (met_last j (omega arith) l o)
      where
        go : (b : Bool) → T b → cond b (Stretch (part.first + j) (fraction_of t (sums j) (sums (suc j)))) NoStretch ≡ NoStretch → ⊥
        go true x e = absurd (true≢false (cc))
        go false x e = absurd x
    meets_some (suc m) j h l o = go (meets tolerance t (sums j) (sums (suc j))) (λ f. meets_some m (suc j) (omega arith) (goes_on j (omega arith) l f) o)
      where
        go : (b : Bool) → (T (not b) → first_met sums part.first tolerance t (suc j) (suc m) ≡ NoStretch → ⊥) →
            cond b (Stretch (part.first + j) (fraction_of t (sums j) (sums (suc j)))) (first_met sums part.first tolerance t (suc j) (suc m)) ≡ NoStretch → ⊥
        go true r e = absurd (true≢false (cc))
        go false r e = r tt e
