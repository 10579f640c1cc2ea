-- What digits spell, one digit at a time, and that it fits.
use Rattle.std.specs.Prelude.{ℕ, ◌≡◌, ◌+◌, ◌*◌, ◌≤◌, ◌<◌, ◌^◌, List, length, drop, get_or, Option, Some}
use Rattle.std.specs.Option.{option_and_then}
use Rattle.std.proofs.Common.{refl, sym, arith, add-one, drop-cons}
use borrow.Author.Tests.{lt-ltb, le-ltb}
use lib.ListN.{drop_of_length-le}
use native.Mathlib.Nat.{pow-suc, pow-le-pow_right, mul-le-mul_right}
use Rattle.case_digits.specs.Digits.{digit_below, spelled_from, spelled_of}

pub digit_next : (base v : ℕ) (s : List ℕ) (i : ℕ) (d : Option ℕ) → i < length s → d ≡ digit_below base (get_or s i 0) → spelled_from base v (drop i s) ≡ option_and_then (λ d. spelled_from base (v * base + d) (drop (i + 1) s)) d
unfolding spelled_from
digit_next base v s i d h e = rw (drop-cons s i 0 h, add-one i, e) refl

pub digits_over : (base v : ℕ) (s : List ℕ) (i : ℕ) → length s ≤ i → spelled_from base v (drop i s) ≡ Some v
unfolding spelled_from
digits_over base v s i h = rw (drop_of_length-le s {i = i} h)

-- a digit more spells a number below the next power
pub next_power : (base v d i : ℕ) → v < base ^ i → d < base → v * base + d < base ^ (i + 1)
next_power base v d i h k = rw (add-one i, pow-suc base i) (omega (arith, mul-le-mul_right {m = v + 1} {n = base ^ i} base (omega arith)))

pub next_fits : (base most v d i : ℕ) → 0 < base → base ^ most ≤ 2 ^ 64 → i < most → v < base ^ i → d < base → v * base + d < 2 ^ 64
next_fits base most v d i z b m h k = omega (arith, next_power base v d i h k, pow-le-pow_right {n = base} z {i = i + 1} {j = most} (omega arith))

pub spelled_whole : (base most : ℕ) (s : List ℕ) (o : Option ℕ) → 0 < length s → length s ≤ most → spelled_from base 0 s ≡ o → o ≡ spelled_of base most s
unfolding spelled_of
spelled_whole base most s o p m h = rw (lt-ltb 0 (length s) p, le-ltb most (length s) m) (sym h)
