-- What a verdict of 0 tells. Assumes nothing.
use Prim.Native.Nat.{ℕ, ◌≤◌}
use native.Mathlib.Omega.{arith}
use mathlib.Core.Path.{◌≡◌, refl}
use mathlib.Core.Bool.{Bool, true, false, cond, ◌||◌}
use lib.Dec.{eqb, ltb}
use borrow.Author.Tests.{eqb-true, eqb-false, ltb-false}
use Rattle.record_faults.specs.declared.Faults.{Faults}
use Rattle.record_refusals.specs.Verdict.{earlier, numbered, over_of, short_of, verdict_of}

-- of two refusals neither is there
module _ (a b : ℕ) where
  by_tests : (t u v : Bool) → (t ≡ true → a ≡ 0) → (t ≡ false → a ≡ 0 → ⊥) → (u ≡ true → b ≡ 0) → (u ≡ false → b ≡ 0 → ⊥) → cond t b (cond u a (cond v a b)) ≡ 0 → (a ≡ 0) × (b ≡ 0)
  by_tests true u v p p' q q' e = (p refl, e)
  by_tests false true v p p' q q' e = (e, q refl)
  by_tests false false true p p' q q' e = absurd (p' refl e)
  by_tests false false false p p' q q' e = absurd (q' refl e)

  neither : earlier a b ≡ 0 → (a ≡ 0) × (b ≡ 0)
  unfolding earlier
  neither e = by_tests (eqb a 0) (eqb b 0) (ltb a b) (eqb-true a 0) (eqb-false a 0) (eqb-true b 0) (eqb-false b 0) e

not_over : (n : ℕ) → over_of n ≡ 0 → n ≤ 1000000
unfolding over_of
not_over n e = ltb-false 1000000 n (go (ltb 1000000 n) e) where
  go : (t : Bool) → ◌≡◌ {A = ℕ} (cond t 2 0) 0 → t ≡ false
  go true p = absurd (omega arith)
  go false p = refl

module _ (n a d k : ℕ) where
  all_rows : (t u v : Bool) → (t ≡ false → n ≤ a) → (u ≡ false → n ≤ d) → (v ≡ false → n ≤ k) → ◌≡◌ {A = ℕ} (cond (t || (u || v)) 9 0) 0 → (n ≤ a) × (n ≤ d) × (n ≤ k)
  all_rows true u v p q r e = absurd (omega arith)
  all_rows false true v p q r e = absurd (omega arith)
  all_rows false false true p q r e = absurd (omega arith)
  all_rows false false false p q r e = (p refl, q refl, r refl)

  not_short : short_of n a d k ≡ 0 → (n ≤ a) × (n ≤ d) × (n ≤ k)
  unfolding short_of
  not_short e = all_rows (ltb a n) (ltb d n) (ltb k n) (ltb-false a n) (ltb-false d n) (ltb-false k n) e

  -- nothing is refused: the columns have rows enough, and there are not too many records
  pub passed : (c : Faults) (lent : ℕ) → verdict_of c lent n a d k ≡ 0 → (n ≤ 1000000) × (n ≤ a) × (n ≤ d) × (n ≤ k)
  unfolding verdict_of
  passed c lent e =
      let four = neither (earlier (earlier (earlier lent (over_of n)) (numbered c.outside 5)) (numbered c.infinite 8)) (short_of n a d k) e in
      let three = neither (earlier (earlier lent (over_of n)) (numbered c.outside 5)) (numbered c.infinite 8) four.0 in
      let two = neither (earlier lent (over_of n)) (numbered c.outside 5) three.0 in
      let one = neither lent (over_of n) two.0 in
      let rows = not_short four.1 in
      (not_over n one.1, rows.0, rows.1, rows.2)
