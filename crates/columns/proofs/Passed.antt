-- What is so of each row that counts where a test of its column is false. Assumes nothing.
use Prim.Native.Nat.{ℕ, ◌<◌, ◌≤◌, ◌+◌, min}
use mathlib.Core.Path.{◌≡◌, refl, sym, subst}
use mathlib.Core.Logic.{⊎_elim}
use mathlib.Core.Bool.{Bool, true, false, ◌||◌, not}
use mathlib.Core.List.{List}
use borrow.Author.Tests.{ltb-false, leb-false}
use lib.Dec.{T}
use lib.IntN.{ℤ, pos}
use lib.ListN.{length, get_or}
use lib.Signed.{lt_z, ◌≤ℤ◌, lt_z_no}
use Rattle.ids.proofs.ByteOrder.{clash, split}
use Rattle.columns.specs.Number.{reaches_at, ends_past_at, beyond, outside_at}
use Rattle.columns.specs.Rows.{some, counts, among}
use Rattle.columns.proofs.Scan.{hit}

-- Where `some` is false the test fails of each.
pub fails : (p : ℕ → Bool) (n : ℕ) → some p n ≡ false → (k : ℕ) → k < n → p k ≡ false
fails p n e k l = ⊎_elim (λ t. let h = hit p n k l t in clash (cc)) (λ f. f) (split (p k))

pub neither : (a b : Bool) → (a || b) ≡ false → (a ≡ false) × (b ≡ false)
neither true b e = clash (cc)
neither false b e = (refl, e)

at_most : (a b : ℤ) → lt_z a b ≡ false → b ≤ℤ a
at_most a b e = lt_z_no (subst (λ (t : Bool). T (not t)) (sym e) tt)

-- A column of which no row that counts is at fault.
module _ (all : Bool) (flags : List ℕ) where
  pub no_fault : (fault : ℕ → Bool) (n : ℕ) → some (among all flags fault) n ≡ false → (k : ℕ) → k < n → counts all flags k ≡ true → fault k ≡ false
  unfolding among
  no_fault fault n e k l c = simp c at (fails (among all flags fault) n e k l)

  pub below_bound : (s : List ℕ) (n : ℕ) → some (among all flags (reaches_at s n)) (length s) ≡ false →
      (k : ℕ) → k < length s → counts all flags k ≡ true → get_or s k 0 < n
  unfolding reaches_at
  below_bound s n e k l c = leb-false _ _ (no_fault (reaches_at s n) (length s) e k l c)

  pub ends_within : (first count : List ℕ) (n : ℕ) → some (among all flags (ends_past_at first count n)) (min (length first) (length count)) ≡ false →
      (k : ℕ) → k < min (length first) (length count) → counts all flags k ≡ true → get_or first k 0 + get_or count k 0 ≤ n
  unfolding ends_past_at
  ends_within first count n e k l c = ltb-false _ _ (no_fault (ends_past_at first count n) _ e k l c)

  pub in_range : (s : List ℤ) (lo hi : ℤ) → some (among all flags (outside_at s lo hi)) (length s) ≡ false →
      (k : ℕ) → k < length s → counts all flags k ≡ true → (lo ≤ℤ get_or s k (pos 0)) × (get_or s k (pos 0) ≤ℤ hi)
  unfolding outside_at beyond
  in_range s lo hi e k l c = let h = neither _ _ (no_fault (outside_at s lo hi) _ e k l c) in (at_most _ _ h.0, at_most _ _ h.1)
