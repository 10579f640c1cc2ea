-- How a pass that ends at the first row at fault shows `some`. Assumes nothing.
use Prim.Native.Nat.{ℕ, zero, suc, ◌<◌, ◌≤◌, ◌+◌, min}
use native.Mathlib.Omega.{arith}
use native.Mathlib.Nat.{eq-or-lt_of_le, le_of_suc-le-suc}
use mathlib.Core.Path.{◌≡◌, refl, sym, ap, ◌∙◌}
use mathlib.Core.Logic.{⊎_elim}
use mathlib.Core.Bool.{Bool, true, false, ◌||◌, or-false, or-true, or_assoc}
use mathlib.Core.List.{List, [], ◌∷◌}
use borrow.Author.Count.{below_more}
use lib.ListN.{length, get_or, get_or-eq_default}
use Rattle.std.specs.List.{list_any}
use Rattle.ids.proofs.ByteOrder.{clash, split}
use Rattle.columns.specs.Rows.{some, counts, among, Read}

-- The test fails of each number below n, or holds of one.
pub none : (p : ℕ → Bool) (n : ℕ) → ((j : ℕ) → j < n → p j ≡ false) → false ≡ some p n
unfolding some
none p zero h = refl
none p (suc n) h = sym (simp (sym (none p n (λ j l. h j (omega arith))), h n (omega arith)))

pub hit : (p : ℕ → Bool) (n k : ℕ) → k < n → p k ≡ true → true ≡ some p n
unfolding some
hit p zero k l t = absurd (omega arith)
hit p (suc n) k l t =
    ⊎_elim (λ (e : k ≡ n). sym (simp (sym (ap p e) ∙ t, or-true)))
    (λ m. ap (λ (b : Bool). b || p n) (hit p n k m t))
    (eq-or-lt_of_le (le_of_suc-le-suc l))

-- Rows that are read one after another: the test holds of some element of a list.
from_front : (p : ℕ → Bool) (n : ℕ) → some p (suc n) ≡ (p zero || some (λ k. p (suc k)) n)
unfolding some
from_front p zero = simp or-false
from_front p (suc n) = ap (λ b. b || p (suc n)) (from_front p n) ∙ or_assoc (p zero) _ _

pub any_at : {A : Type 0} (test : A → Bool) (d : A) (xs : List A) → list_any test xs ≡ some (λ k. test (get_or xs k d)) (length xs)
unfolding some
any_at test d [] = refl
any_at test d (x ∷ xs) = ap (λ b. test x || b) (any_at test d xs) ∙ sym (from_front (λ k. test (get_or (x ∷ xs) k d)) (length xs))

-- A loop at k: the test failed of the numbers before.
pub record Missed (p : ℕ → Bool) (k : ℕ) : Type 0 where
  pub before : (j : ℕ) → j < k → p j ≡ false

pub on : {p : ℕ → Bool} {k : ℕ} → Missed p k → p k ≡ false → Missed p (k + 1)
on {p} m f = record { before = below_more (λ (j : ℕ). p j ≡ false) _ m.before f }

pub over : {p : ℕ → Bool} {k : ℕ} (n : ℕ) → Missed p k → n ≤ k → false ≡ some p n
over {p} n m h = none p n (λ j l. m.before j (omega arith))

-- Which rows are read.
past_flags : (all : Bool) (flags : List ℕ) (k : ℕ) → all ≡ false → length flags ≤ k → counts all flags k ≡ false
unfolding counts
past_flags all flags k e h = simp (e, get_or-eq_default flags 0 h)

module _ (all : Bool) (flags : List ℕ) (n : ℕ) where
  pub read_all : all ≡ true → Read all flags n n
  read_all e = record { within = omega arith; flagged = λ f. clash (cc); others = λ k l m. absurd (omega arith) }

  pub read_flagged : {r : ℕ} → all ≡ false → r ≡ min n (length flags) → Read all flags n r
  read_flagged e q = record { within = omega arith; flagged = λ f. omega arith; others = λ k l m. past_flags all flags k e (omega arith) }

-- Those that are not read do not count, so that they may be left out.
some_more : (p : ℕ → Bool) (m n : ℕ) → m ≤ n → ((k : ℕ) → m ≤ k → k < n → p k ≡ false) → some p m ≡ some p n
unfolding some
some_more p m zero l h = let e : m ≡ 0 = omega arith in rw e
some_more p m (suc n) l h =
    ⊎_elim (λ (e : m ≡ suc n). ap (some p) e)
    (λ q. some_more p m n (omega arith) (λ k a b. h k a (omega arith)) ∙ simp (h n (omega arith) (omega arith), or-false))
    (eq-or-lt_of_le l)

module _ {all : Bool} {flags : List ℕ} {n rows : ℕ} (r : Read all flags n rows) (fault : ℕ → Bool) where
  pub some_read : some (among all flags fault) rows ≡ some (among all flags fault) n
  unfolding among
  some_read = some_more _ rows n r.within (λ k l m. simp (r.others k l m))

-- Of a row that does not count the answer is false, of one that counts it is the test's.
pub answered : (all : Bool) (flags : List ℕ) (fault : ℕ → Bool) (k : ℕ) {b : Bool} → (counts all flags k ≡ false → b ≡ false) → (counts all flags k ≡ true → b ≡ fault k) → b ≡ among all flags fault k
unfolding among
answered all flags fault k s t = ⊎_elim (λ (e : counts all flags k ≡ true). rw e (t e)) (λ e. rw e (s e)) (split (counts all flags k))
