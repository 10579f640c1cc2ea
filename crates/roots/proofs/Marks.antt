-- The rounded root of a fraction is one ordinary rounding, at any scale c. In units of the smallest value the root of n / d is rounded as v / (4 * c) is, for a
-- whole number v that is to 2 * h * c as the root is to h / 2 (`Mark`): rounding makes no other comparison. Any format.
use mathlib.Core.Path.{◌≡◌, sym, ap, ◌∙◌}
use Prim.Native.Nat.{ℕ, ◌+◌, ◌-◌, ◌*◌, ◌/◌, ◌%◌, ◌^◌, ◌≤◌, ◌<◌, compare}
use native.Mathlib.Nat.{lt_of_not-le, not-le_of_lt, mul-one, mul-pos, le-div_iff_mul-le, div-lt_iff_lt-mul, div-mul-le_self, div-add-mod', zero-lt-suc}
use native.Mathlib.Omega.{arith}
use mathlib.Core.Bool.{Bool, true, false, not}
use lib.Dec.{T, leb, leb→le, nleb→lt}
use lib.Pow.{pow_pos}
use lib.Ieee.{Float, Format, prec, low, size, nearest, units, round}
use lib.Ieee.Fits.{round_is}
use lib.Ieee.Nearest.{closest, closest_same, div_same}
use Rattle.floats.proofs.Compare.{cmp_lt, cmp_eq, cmp_gt}
use Rattle.roots.specs.Root.{round_root}
use Rattle.roots.specs.Whole.{whole_root}
use Rattle.roots.proofs.Whole.{whole_root_unique}

-- ---- the mark of n / d: v is to 2 * h * c as 4 * n / d is to h * h
pub record Mark (c v n d : ℕ) : Type 0 where
  pub reaches : (h : ℕ) → 2 * (h * c) ≤ v → h * h * d ≤ 4 * n
  pub reached : (h : ℕ) → h * h * d ≤ 4 * n → 2 * (h * c) ≤ v
  pub under : (h : ℕ) → v ≤ 2 * (h * c) → 4 * n ≤ h * h * d
  pub over : (h : ℕ) → 4 * n ≤ h * h * d → v ≤ 2 * (h * c)

same_compare : (a b c d : ℕ) → (a ≤ b → c ≤ d) → (b ≤ a → d ≤ c) → (c ≤ d → a ≤ b) → (d ≤ c → b ≤ a) → compare a b ≡ compare c d
same_compare a b c d p q r s = go (leb a b) (leb b a) (leb→le a b) (nleb→lt a b) (leb→le b a) (nleb→lt b a)
  where
    go : (x y : Bool) → (T x → a ≤ b) → (T (not x) → b < a) → (T y → b ≤ a) → (T (not y) → a < b) → compare a b ≡ compare c d
    go true true f g h k = cmp_eq a b (f tt) (h tt) ∙ sym (cmp_eq c d (p (f tt)) (q (h tt)))
    go true false f g h k = cmp_lt a b (k tt) ∙ sym (cmp_lt c d (lt_of_not-le (λ (z : d ≤ c). not-le_of_lt (k tt) (s z))))
    go false y f g h k = cmp_gt a b (g tt) ∙ sym (cmp_gt c d (lt_of_not-le (λ (z : c ≤ d). not-le_of_lt (g tt) (r z))))

square : (q t d : ℕ) → q * t * (q * t) * d ≡ d * (t * t) * (q * q)
square q t d = omega arith

abbrev kept : ℕ → ℕ → ℕ → ℕ
kept n d k = let u = d * (2 ^ k * 2 ^ k) in let q = whole_root (n / u) in nearest q (compare (n * 4) (u * ((2 * q + 1) * (2 * q + 1))))

module _ (c v n d : ℕ) (m : Mark c v n d) (C : 0 < c) (D : 0 < d) where
  lt_mark : (h : ℕ) → v < 2 * (h * c) → 4 * n < h * h * d
  lt_mark h l = lt_of_not-le (λ (g : h * h * d ≤ 4 * n). not-le_of_lt l (m.reached h g))

  module _ (t : ℕ) (P : 0 < t) where
    abbrev step : ℕ
    step = 4 * c * t

    abbrev q : ℕ
    q = v / step

    positive : 0 < step
    positive = mul-pos (mul-pos (zero-lt-suc 3) C) P

    -- v lies between q and q + 1 times 4 * c * t, so the root lies between q and q + 1 times t
    whole_root_lem : whole_root (n / (d * (t * t))) ≡ q
    whole_root_lem =
        let U : 0 < d * (t * t) = mul-pos D (mul-pos P P) in
        let lo : q * step ≤ v = div-mul-le_self v step in
        let hi : v < (q + 1) * step = (div-lt_iff_lt-mul positive).0 (more q) in
        let a = m.reaches (2 * q * t) (here q lo) in
        let b = lt_mark (2 * (q + 1) * t) (here' (q + 1) hi) in
        whole_root_unique (n / (d * (t * t))) q ((le-div_iff_mul-le U).1 (quarter q a), (div-lt_iff_lt-mul U).1 (quarter' (q + 1) b))
      where
        more : (q : ℕ) → q < q + 1
        more q = omega arith

        here : (q : ℕ) → q * (4 * c * t) ≤ v → 2 * (2 * q * t * c) ≤ v
        here q h = omega arith

        here' : (q : ℕ) → v < q * (4 * c * t) → v < 2 * (2 * q * t * c)
        here' q h = omega arith

        quarter : (q : ℕ) → 2 * q * t * (2 * q * t) * d ≤ 4 * n → q * q * (d * (t * t)) ≤ n
        quarter q h = omega arith

        quarter' : (q : ℕ) → 4 * n < 2 * q * t * (2 * q * t) * d → n < q * q * (d * (t * t))
        quarter' q h = omega arith

    -- v against the middle of the two is the root against q + 1 / 2 times t
    same_side : compare (v % step * 2) step ≡ compare (n * 4) (d * (t * t) * ((2 * q + 1) * (2 * q + 1)))
    same_side =
        let h = (2 * q + 1) * t in
        let r = v % step in
        let z = d * (t * t) * ((2 * q + 1) * (2 * q + 1)) in
        let e : q * step + r ≡ v = div-add-mod' v step in
        let s : h * h * d ≡ z = square (2 * q + 1) t d in
        same_compare (r * 2) step (n * 4) z
        (λ (l : r * 2 ≤ step). omega (arith, m.under h (omega arith)))
        (λ (l : step ≤ r * 2). omega (arith, m.reaches h (omega arith)))
        (λ (l : n * 4 ≤ z). omega (arith, m.over h (omega arith)))
        (λ (l : z ≤ n * 4). omega (arith, m.reached h (omega arith)))

  same_kept : (k : ℕ) → kept n d k ≡ closest v (4 * c * 2 ^ k)
  same_kept k =
      let u = d * (2 ^ k * 2 ^ k) in
      ap (λ (q : ℕ). nearest q (compare (n * 4) (u * ((2 * q + 1) * (2 * q + 1))))) (whole_root_lem (2 ^ k) (pow_pos k)) ∙ ap (nearest (v / (4 * c * 2 ^ k))) (sym (same_side (2 ^ k) (pow_pos k)))

  same_whole : whole_root (n / d) ≡ v / (4 * c)
  same_whole = ap (λ (z : ℕ). whole_root (n / z)) (sym (mul-one d)) ∙ whole_root_lem 1 (zero-lt-suc 0) ∙ ap (λ (z : ℕ). v / z) (mul-one (4 * c))

-- ---- so `round_root` is `round`, at v / (4 * c) in units of the smallest value
module _ (f : Format) (c : ℕ) (C : 0 < c) where
  -- q, in the units that a whole part of w leaves
  abbrev units_of : ℕ → ℕ → Float
  units_of w q = units f false q (size w - prec f)

  quad : 0 < 4 * c
  quad = mul-pos (zero-lt-suc 3) C

  rounded_is : (v : ℕ) → round f false v (4 * c * 2 ^ low f) ≡ units_of (v / (4 * c)) (closest v (4 * c * 2 ^ (size (v / (4 * c)) - prec f)))
  rounded_is v =
      let l = 2 ^ low f in
      let L : 0 < l = pow_pos (low f) in
      let k = size (v / (4 * c)) - prec f in
      round_is f false v (4 * c * l)
      ∙ ap (λ (w : ℕ). units_of w (closest (v * l) (4 * c * l * 2 ^ (size w - prec f)))) (div_same (v * l) (4 * c * l) v (4 * c) (mul-pos quad L) quad (omega arith))
      ∙ ap (units_of (v / (4 * c))) (closest_same (v * l) (4 * c * l * 2 ^ k) v (4 * c * 2 ^ k) (mul-pos (mul-pos quad L) (pow_pos k)) (mul-pos quad (pow_pos k)) (omega arith))

  pub round_root_is : (num den v : ℕ) → 0 < den → Mark c v (num * 2 ^ (low f + low f)) den → round_root f num den ≡ round f false v (4 * c * 2 ^ low f)
  unfolding round_root
  round_root_is num den v D m =
      let n = num * 2 ^ (low f + low f) in
      ap (λ (w : ℕ). units_of w (kept n den (size w - prec f))) (same_whole c v n den m C D) ∙ ap (units_of (v / (4 * c))) (same_kept c v n den m C D (size (v / (4 * c)) - prec f)) ∙ sym (rounded_is v)
