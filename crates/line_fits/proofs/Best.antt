-- The row that fits best, as a loop over a line's rows finds it. Assumes nothing.
use Rattle.std.specs.Prelude.{Option, Some, None}
use Prim.Native.Nat.{ℕ, zero, suc, ◌<◌, ◌≤◌, ◌+◌}
use native.Mathlib.Omega.{arith}
use native.Mathlib.Nat.{eq-or-lt_of_le}
use native.Mathlib.Numerals.{add-one}
use mathlib.Core.Path.{◌≡◌, refl, ap, ◌∙◌}
use mathlib.Core.Logic.{⊎_elim}
use mathlib.Core.Bool.{Bool, true, false, cond}
use mathlib.Core.List.{List, []}
use borrow.Author.Tests.{le-ltb, ltb-true}
use lib.Dec.{ltb}
use Rattle.ids.proofs.ByteOrder.{clash, split}
use Rattle.ids.specs.Pool.{cell_of}
use Rattle.row_stands.specs.Stands.{stand_of, parts_at, key_of}
use Rattle.row_lookup.specs.Rows.{row_is, is_same}
use Rattle.row_stands.specs.declared.rows.Rows.TheVariants.{Lines}
use Rattle.row_lookup.proofs.Halves.{earlier, none_after, is_other}
use Rattle.trip_fits.specs.Fits.{trip_fit}
use Rattle.trip_fits.specs.Plans.{Planned}
use Rattle.departure_fits.specs.Departures.{away}
use Rattle.departure_fits.specs.declared.departure.Count.{Count}
use Rattle.departure_fits.specs.declared.departure.Fit.{Fit}
use Rattle.trip_fits.specs.declared.fit.Plan.{Plan}
use Rattle.line_fits.specs.Lines.{on_line, row_fit, line_from, least_of, kept_of, best_of}
use Rattle.line_fits.specs.declared.line.Best.{Best}

module _ (fits : ℕ → Option Fit) where
  -- what a loop has found in the rows before k, and with row k
  abbrev pub state_of : ℕ → Best
  state_of k = record { at = best_of fits k; away = least_of fits (best_of fits k) }

  pub next : (k : ℕ) → kept_of (state_of k) (away (fits k)) k ≡ state_of (k + 1)
  unfolding best_of
  next k = rw add-one (go (ltb (away (fits k)) (least_of fits (best_of fits k)))) where
    go : (t : Bool) → cond t (record { at = Some k; away = away (fits k) }) (state_of k) ≡ record { at = cond t (Some k) (best_of fits k); away = least_of fits (cond t (Some k) (best_of fits k)) }
    go true = refl
    go false = refl

  -- what is found is no more than 900 seconds away
  pub least_le : (n : ℕ) → least_of fits (best_of fits n) ≤ 901
  unfolding best_of
  least_le zero = omega arith
  least_le (suc n) = go (ltb (away (fits n)) (least_of fits (best_of fits n))) refl (least_le n) where
    go : (t : Bool) → ltb (away (fits n)) (least_of fits (best_of fits n)) ≡ t → least_of fits (best_of fits n) ≤ 901 → least_of fits (cond t (Some n) (best_of fits n)) ≤ 901
    go true e h = omega (arith, ltb-true (away (fits n)) (least_of fits (best_of fits n)) e)
    go false e h = h

  best_within : (n b : ℕ) → best_of fits n ≡ Some b → away (fits b) < 901
  unfolding best_of
  best_within zero b e = clash (cc)
  best_within (suc n) b e = go (ltb (away (fits n)) (least_of fits (best_of fits n))) refl e (best_within n b) where
    go : (t : Bool) → ltb (away (fits n)) (least_of fits (best_of fits n)) ≡ t → cond t (Some n) (best_of fits n) ≡ Some b → (best_of fits n ≡ Some b → away (fits b) < 901) → away (fits b) < 901
    go true q r h = let s : n ≡ b = cc in rw (← s) (omega (arith, ltb-true (away (fits n)) (least_of fits (best_of fits n)) q, least_le n))
    go false q r h = h r

  pub rests : (k : ℕ) → fits k ≡ None → best_of fits (suc k) ≡ best_of fits k
  unfolding best_of
  rests k e = simp (e, le-ltb 901 (least_of fits (best_of fits k)) (least_le k))

  -- rows that never fit change nothing
  pub none_yet : (k : ℕ) → ((j : ℕ) → j < k → fits j ≡ None) → best_of fits k ≡ None
  unfolding best_of
  none_yet zero h = refl
  none_yet (suc k) h = rests k (h k (omega arith)) ∙ none_yet k (λ j l. h j (omega arith))

  pub none_more : (n k : ℕ) → k ≤ n → ((j : ℕ) → k ≤ j → j < n → fits j ≡ None) → best_of fits n ≡ best_of fits k
  none_more zero k l h = let e : k ≡ zero = omega arith in rw e
  none_more (suc n) k l h =
      ⊎_elim (λ (e : k ≡ suc n). rw e) (λ m. let q : k ≤ n = omega arith in rests n (h n q (omega arith)) ∙ none_more n k q (λ j a b. h j a (omega arith))) (eq-or-lt_of_le l)

-- rows of other lines never fit
module _ (bytes words : List ℕ) (p : Plan) (token : List ℕ) (today yesterday : Count) where
  pub off_line : (k : ℕ) → on_line bytes words p token k ≡ false → row_fit bytes words p token today yesterday k ≡ None
  unfolding row_fit
  off_line k e = simp e

  pub on_line_fit : (k : ℕ) → on_line bytes words p token k ≡ true →
      row_fit bytes words p token today yesterday k ≡ trip_fit bytes words p today yesterday (cell_of words p.lines.trip k)
  unfolding row_fit
  on_line_fit k e = simp e

  pub best_on_line : (n b : ℕ) → best_of (row_fit bytes words p token today yesterday) n ≡ Some b → on_line bytes words p token b ≡ true
  best_on_line n b e = ⊎_elim (λ t. t) (λ f. absurd (far f)) (split (on_line bytes words p token b)) where
    far : on_line bytes words p token b ≡ false → ⊥
    far f =
        let h = best_within (row_fit bytes words p token today yesterday) n b e in
        let z : away (row_fit bytes words p token today yesterday b) ≡ 901 = ap away (off_line b f) in omega arith

  module _ (planned : Planned bytes words p) (from : ℕ) (e : from ≡ line_from bytes words p token) where
    pub before_line : (j : ℕ) → j < from → j < p.lines.trip.n → row_fit bytes words p token today yesterday j ≡ None
    unfolding stand_of row_is
    before_line j l m =
        off_line j (ap is_same (earlier (parts_at bytes words (Lines p.lines.token)) (key_of (Lines p.lines.token) token [] 0 0) p.lines.trip.n from e j l m))

    pub after_line : (k : ℕ) → from ≤ k → k < p.lines.trip.n → on_line bytes words p token k ≡ false →
        (j : ℕ) → k ≤ j → j < p.lines.trip.n → row_fit bytes words p token today yesterday j ≡ None
    unfolding stand_of row_is
    after_line k l m h j a b =
        off_line j (is_other _ (none_after (parts_at bytes words (Lines p.lines.token)) (key_of (Lines p.lines.token) token [] 0 0) p.lines.trip.n from e planned.lines.pairs k l m (λ s. let z = ap is_same s in clash (cc)) j a b))
