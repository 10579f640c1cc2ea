-- The floor of a moment by the day's length, from the machine's quotient and rest, which round toward zero.
use Prim.Native.Nat.{ℕ, zero, suc, ◌+◌, ◌-◌, ◌*◌, ◌/◌, ◌%◌, ◌<◌, ◌≤◌}
use mathlib.Core.Path.{◌≡◌, refl, ap, ◌∙◌}
use mathlib.Core.Bool.{true, false}
use native.Mathlib.Omega.{arith}
use native.Mathlib.Nat.{div-add-mod', div-le_self}
use borrow.Author.Tests.{le-ltb, lt-ltb, ltb-true}
use lib.Dec.{le→leb, lt→ltb}
use lib.IntN.{ℤ, pos, negsuc, neg_ℤ, ◌+ℤ◌, ◌-ℤ◌, ◌*ℤ◌}
use lib.Signed.{mag, lt_z, quot_z, rem_z, le_z_yes, lt_z_yes}
use mir.Syntax.{w64}
use mir.Val.{SFits}
use mir.Facts.{to_z-of_z}
use Rattle.day_counts.specs.declared.service.ServiceDay.{ServiceDay}
use Rattle.day_counts.specs.Floor.{floor_div, floor_mod}
use Rattle.day_counts.specs.Service.{day_length, service_day_of, Splits}
use Rattle.day_counts.proofs.Signed.{back, quot_read, rem_read}

less_one : (q : ℕ) → neg_ℤ (pos q) -ℤ pos 1 ≡ negsuc q
less_one zero = refl
less_one (suc q) = ap negsuc (omega arith)

up_one : (r : ℕ) → 0 < r → r < 86400 → neg_ℤ (pos r) +ℤ pos day_length ≡ pos (86400 - r)
up_one zero h k = absurd (omega arith)
up_one (suc r) h k = rw (le-ltb 86400 (suc r) (omega arith)) refl

below_zero : (r : ℕ) → lt_z (neg_ℤ (pos r)) (pos 0) ≡ true → 0 < r
below_zero zero e = omega (arith, ltb-true 0 0 e)
below_zero (suc r) e = omega arith

-- a negative rest: the floor lies one lower
floor_below : (z : ℤ) → lt_z (rem_z z (pos day_length)) (pos 0) ≡ true → (quot_z z (pos day_length) -ℤ pos 1 ≡ floor_div z day_length) × (rem_z z (pos day_length) +ℤ pos day_length ≡ pos (floor_mod z day_length))
floor_below (pos n) e = absurd (omega (arith, ltb-true (n % 86400) 0 e))
floor_below (negsuc n) e =
    let h = below_zero (suc n % 86400) e in
    (less_one (suc n / 86400) ∙ ap negsuc (omega arith), up_one (suc n % 86400) h (omega arith) ∙ ap pos (omega arith))

none_left : (r : ℕ) → lt_z (neg_ℤ (pos r)) (pos 0) ≡ false → r ≡ 0
none_left zero e = refl
none_left (suc r) e = let q : ◌≡◌ {A = ℕ} 0 1 = cc in absurd (omega arith)

exact : (q n : ℕ) → q * 86400 ≡ suc n → neg_ℤ (pos q) ≡ negsuc (n / 86400)
exact zero n e = absurd (omega arith)
exact (suc q) n e = ap negsuc (omega arith)

-- no negative rest: the quotient is the floor
floor_level : (z : ℤ) → lt_z (rem_z z (pos day_length)) (pos 0) ≡ false → (quot_z z (pos day_length) ≡ floor_div z day_length) × (rem_z z (pos day_length) ≡ pos (floor_mod z day_length))
floor_level (pos n) e = (refl, refl)
floor_level (negsuc n) e =
    let h = none_left (suc n % 86400) e in
    (exact (suc n / 86400) n (omega arith), rw h (ap pos (omega arith)))

div_mag : (z : ℤ) (m : ℕ) → mag (floor_div z m) ≤ mag z
div_mag (pos n) m = div-le_self n m
div_mag (negsuc n) m = div-le_self n m

mod_small : (z : ℤ) → floor_mod z day_length < 86400
mod_small (pos n) = omega arith
mod_small (negsuc n) = omega arith

module _ (z : ℤ) (f : SFits w64 z) where
  abbrev pub quot : ℤ
  quot = back (quot_z (back z) (pos day_length))

  abbrev pub rest : ℤ
  rest = back (rem_z (back z) (pos day_length))

  div_fits : SFits w64 (floor_div z day_length)
  div_fits = record { sfits = omega (arith, div_mag z day_length, f.sfits) }

  mod_fits : SFits w64 (pos (floor_mod z day_length))
  mod_fits = record { sfits = omega (arith, mod_small z) }

  -- a negative rest: both are moved
  module _ (e : lt_z rest (pos 0) ≡ true) where
    below : (quot_z z (pos day_length) -ℤ pos 1 ≡ floor_div z day_length) × (rem_z z (pos day_length) +ℤ pos day_length ≡ pos (floor_mod z day_length))
    below = floor_below z (rw (rem_read day_length z f) at e)

    day_down : quot -ℤ pos 1 ≡ floor_div z day_length
    day_down = rw (quot_read day_length z f) below.0

    second_up : rest +ℤ pos day_length ≡ pos (floor_mod z day_length)
    second_up = rw (rem_read day_length z f) below.1

    pub day_fits : SFits w64 (quot -ℤ pos 1)
    day_fits = rw day_down div_fits

    pub second_fits : SFits w64 (rest +ℤ pos day_length)
    second_fits = rw second_up mod_fits

    pub moved : ◌≡◌ {A = ServiceDay} (record { day = back (quot -ℤ pos 1); second = back (rest +ℤ pos day_length) }) (service_day_of z)
    unfolding service_day_of
    moved = rw (day_down, second_up, to_z-of_z div_fits, to_z-of_z mod_fits)

  -- none: both are as they are
  pub kept : lt_z rest (pos 0) ≡ false → ◌≡◌ {A = ServiceDay} (record { day = quot; second = rest }) (service_day_of z)
  unfolding service_day_of
  kept e =
      let level = floor_level z (rw (rem_read day_length z f) at e) in
      rw (quot_read day_length z f, rem_read day_length z f, level.0, level.1)

down_part : (q r n : ℕ) → q * 86400 + r ≡ n → r < 86400 → negsuc n ≡ negsuc q *ℤ pos day_length +ℤ pos (86399 - r)
down_part q r n e h =
    let big : suc q * 86400 ≡ suc (q * 86400 + 86399) = omega arith in
    rw big (rw (lt-ltb (86399 - r) (suc (q * 86400 + 86399)) (omega arith)) (ap negsuc (omega arith)))

-- a moment is its day's first second and the second of the day
splits : (z : ℤ) → Splits z (service_day_of z)
unfolding service_day_of
splits z = record { whole = go z; low = le_z_yes (le→leb 0 (floor_mod z day_length) (omega arith)); high = lt_z_yes (lt→ltb (floor_mod z day_length) day_length (mod_small z)) } where
  go : (y : ℤ) → y ≡ floor_div y day_length *ℤ pos day_length +ℤ pos (floor_mod y day_length)
  go (pos n) = ap pos (omega (arith, div-add-mod' n 86400))
  go (negsuc n) = down_part (n / 86400) (n % 86400) n (div-add-mod' n 86400) (omega arith)

pub told : (z : ℤ) (s : ServiceDay) → s ≡ service_day_of z → (s ≡ service_day_of z) × Splits z s
told z s e = (e, rw e (splits z))
