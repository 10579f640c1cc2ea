use native.Mathlib.Omega.{arith}
use mathlib.Core.Path.{◌≡◌, refl}
use Prim.Native.Nat.{ℕ, zero, suc, ◌-◌, ◌<◌, ◌≤◌}
use mathlib.Core.Bool.{true, not}
use mathlib.Core.List.{List}
use lib.ListN.{length, get_or, get_or-eq_default}
use Rattle.ids.specs.Bytes.{is_alnum, upper_of}
use Rattle.product_codes.specs.Codes.{begins_word}
use Rattle.product_codes.proofs.code.begins_word.Goals as goal

-- A place at the beginning, or past the end: no letter or digit stands before it.
begins_first : (s : List ℕ) (k : ℕ) → k ≡ 0 → true ≡ begins_word s k
unfolding begins_word
begins_first s k e = rw e

begins_after : (s : List ℕ) (k : ℕ) → (k ≡ 0 → ⊥) → not (is_alnum (get_or s (k - 1) 0)) ≡ begins_word s k
unfolding begins_word
begins_after s zero h = absurd (h refl)
begins_after s (suc k) h = let e : suc k - 1 ≡ k = omega arith in rw e

begins_past : (s : List ℕ) (k : ℕ) → length s < k → true ≡ begins_word s k
unfolding begins_word is_alnum upper_of
begins_past s zero l = absurd (omega arith)
begins_past s (suc k) l = let h : length s ≤ k = omega arith in rw (get_or-eq_default s 0 h)

pub returns-then-k-eq0 : goal.returns-then-k-eq0
returns-then-k-eq0 c = begins_first _ _ c.if-k-eq0.true

pub returns-then-s-k : goal.returns-then-s-k
returns-then-s-k c = begins_past _ _ c.if-s-k.true

pub returns : goal.returns
returns c = rw c.alnum.ensures (begins_after _ _ c.if-k-eq0.false)
