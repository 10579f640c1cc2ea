-- The order of rounded roots: `Marks` at the scale 1.
use mathlib.Core.Path.{◌≡◌, sym}
use mathlib.Core.Logic.{inl, inr}
use Prim.Native.Nat.{ℕ, ◌+◌, ◌*◌, ◌/◌, ◌^◌, ◌≤◌, ◌<◌}
use native.Mathlib.Nat.{le_trans, le_of_eq, le_of_lt, lt_of_lt_of_le, eq-or-lt_of_le, mul_right_comm, mul-pos, mul-le-mul, mul-le-mul_right, le_of_mul-le-mul_right, lt_of_mul-lt-mul_right, le-div_iff_mul-le, div-lt_iff_lt-mul, zero-lt-suc}
use native.Mathlib.Omega.{arith}
use mathlib.Core.Bool.{Bool, true, false, cond}
use lib.Arith.{lt_of_le-ne}
use lib.Dec.{T, eqb, eqb→eq}
use lib.Pow.{pow_pos}
use lib.Ieee.{Format, low, round, le}
use lib.Ieee.Fits.{eq→eqb}
use lib.Ieee.Order.{round_mono}
use Rattle.roots.specs.Root.{round_root}
use Rattle.roots.specs.Whole.{whole_root}
use Rattle.roots.proofs.Whole.{whole_root_is, whole_root_ge, square_le_back, square_lt_back}
use Rattle.roots.proofs.Marks.{Mark, round_root_is}

-- the whole part of twice the root
abbrev twice : ℕ → ℕ → ℕ
twice n d = whole_root (4 * n / d)

-- twice that, and one more where the whole part is not all
abbrev mark : ℕ → ℕ → ℕ
mark n d = 2 * twice n d + cond (eqb (twice n d * twice n d * d) (4 * n)) 0 1

module _ (n d : ℕ) (D : 0 < d) where
  twice-le : twice n d * twice n d * d ≤ 4 * n
  twice-le = (le-div_iff_mul-le D).0 (whole_root_is (4 * n / d)).0

  lt_twice : 4 * n < (twice n d + 1) * (twice n d + 1) * d
  lt_twice = (div-lt_iff_lt-mul D).0 (whole_root_is (4 * n / d)).1

  to_twice : (h : ℕ) → h * h * d ≤ 4 * n → h ≤ twice n d
  to_twice h l = whole_root_ge (4 * n / d) h ((le-div_iff_mul-le D).1 l)

  of_twice : (h : ℕ) → h ≤ twice n d → h * h * d ≤ 4 * n
  of_twice h l = le_trans (mul-le-mul_right d (mul-le-mul l l)) twice-le

  exact : twice n d * twice n d * d ≡ 4 * n → Mark 1 (2 * twice n d + 0) n d
  exact e = record {
    reaches = λ h l. of_twice h (omega arith);
    reached = λ h l. omega (arith, to_twice h l);
    under = λ h l. le_trans (le_of_eq (sym e)) (mul-le-mul_right d (mul-le-mul {n₂ = h} {m₂ = h} (omega arith) (omega arith)));
    over = λ h l. omega (arith, square_le_back (twice n d) h (le_of_mul-le-mul_right (le_trans (le_of_eq e) l) D));
  }

  between : twice n d * twice n d * d < 4 * n → Mark 1 (2 * twice n d + 1) n d
  between g = record {
    reaches = λ h l. of_twice h (omega arith);
    reached = λ h l. omega (arith, to_twice h l);
    under = λ h l. le_trans (le_of_lt lt_twice) (mul-le-mul_right d (mul-le-mul {n₂ = h} {m₂ = h} (omega arith) (omega arith)));
    over = λ h l. omega (arith, square_lt_back (twice n d) h (lt_of_mul-lt-mul_right d (lt_of_lt_of_le g l)));
  }

  mark_is : Mark 1 (mark n d) n d
  mark_is = go (eqb (twice n d * twice n d * d) (4 * n)) (eqb→eq (twice n d * twice n d * d) (4 * n)) (λ (e : twice n d * twice n d * d ≡ 4 * n). eq→eqb e)
    where
      go : (b : Bool) → (T b → twice n d * twice n d * d ≡ 4 * n) → (twice n d * twice n d * d ≡ 4 * n → T b) → Mark 1 (2 * twice n d + cond b 0 1) n d
      go true x y = exact (x tt)
      go false x y = between (lt_of_le-ne twice-le y)

-- ---- a larger fraction has no smaller mark: what is at most a / b is at most c / d, and what is at least c / d is at least a / b
below_too : (a b c d x : ℕ) → 0 < b → a * d ≤ c * b → x * b ≤ 4 * a → x * d ≤ 4 * c
below_too a b c d x B h l = le_of_mul-le-mul_right {k = b} (omega (arith, mul-le-mul_right d l)) B

above_too : (a b c d x : ℕ) → 0 < d → a * d ≤ c * b → 4 * c ≤ x * d → 4 * a ≤ x * b
above_too a b c d x D h l = le_of_mul-le-mul_right {k = d} (omega (arith, mul-le-mul_right b l)) D

mark_mono : (v w a b c d : ℕ) → Mark 1 v a b → Mark 1 w c d → 0 < b → 0 < d → a * d ≤ c * b → v ≤ w
mark_mono v w a b c d m k B D h =
    let x = v / 2 in
    let l : 2 * x ≤ w = omega (arith, k.reached x (below_too a b c d (x * x) B h (m.reaches x (omega arith)))) in
    elim (eq-or-lt_of_le l) [
      | inl e ↦ omega (arith, e, m.over x (above_too a b c d (x * x) D h (k.under x (omega (arith, e)))))
      | inr g ↦ omega arith
    ]

module _ (f : Format) where
  -- num / den in squares of the smallest value
  abbrev scaled : ℕ → ℕ
  scaled num = num * 2 ^ (low f + low f)

  -- the rounded root is a rounded number that is not negative
  pub round_root-rounds : (num den : ℕ) → 0 < den → round_root f num den ≡ round f false (mark (scaled num) den) (4 * 2 ^ low f)
  round_root-rounds num den D = round_root_is f 1 (zero-lt-suc 0) num den (mark (scaled num) den) D (mark_is (scaled num) den D)

  pub round_root_mono : (a b c d : ℕ) → 0 < b → 0 < d → a * d ≤ c * b → T (le (round_root f a b) (round_root f c d))
  round_root_mono a b c d B D h =
      let u = 4 * 2 ^ low f in
      let U : 0 < u = mul-pos (zero-lt-suc 3) (pow_pos (low f)) in
      let v = mark (scaled a) b in
      let w = mark (scaled c) d in
      let x = mark_is (scaled a) b B in
      let y = mark_is (scaled c) d D in
      let s = 2 ^ (low f + low f) in
      let l : a * s * d ≤ c * s * b = le_trans (le_of_eq (mul_right_comm a s d)) (le_trans (mul-le-mul_right s h) (le_of_eq (mul_right_comm c b s))) in
      rw (round_root_is f 1 (zero-lt-suc 0) a b v B x, round_root_is f 1 (zero-lt-suc 0) c d w D y) (round_mono f v u w u U U (mul-le-mul_right u (mark_mono v w (scaled a) b (scaled c) d x y B D l)))
