-- How a text ends, and a text that is taken away at the end of another, time after time. Assumes nothing.
use Prim.Native.Nat.{ℕ, zero, suc, ◌<◌, ◌≤◌, ◌-◌}
use native.Mathlib.Omega.{arith}
use mathlib.Core.Path.{◌≡◌, refl, sym, ap, ◌∙◌}
use mathlib.Core.Bool.{Bool, true, false, cond}
use mathlib.Core.List.{List, [], ◌∷◌}
use mathlib.Core.Logic.{⊎_elim}
use lib.ListN.{length, take, drop, length-drop}
use lib.Seq.{length-take-le, take_all}
use lib.Dec.{leb, eqb}
use borrow.Author.Tests.{le-leb, lt-leb, leb-true, leb-false}
use Rattle.std.specs.Cmp.Lexicographic.{pointwise}
use Rattle.std.specs.List.{ends_with}
use Rattle.std.proofs.lemmas.Cmp.{nat_list_eq_equiv}
use Rattle.ids.specs.Cmp.{equal}
use Rattle.ids.proofs.ByteOrder.{both, split, unequal}
use Rattle.texts.specs.Texts.{suffix_of, trimmed_times, trimmed_text}
use Rattle.text_folds.specs.Folds.{prefix_of}
use Rattle.text_folds.proofs.Folds.{equal_pointwise, prefix_taken}

-- The library's test, where the text is long enough and where it is not.
fits_end : (n s : List ℕ) → length n ≤ length s → ends_with eqb s n ≡ suffix_of n s
unfolding suffix_of
fits_end n s l =
    let last = drop (length s - length n) s in
    equal_pointwise n last
    ∙ ap (equal n) (sym (take_all (length n) last (omega (arith, length-drop (length s - length n) s))))
    ∙ prefix_taken n last
    ∙ sym (simp (le-leb (length n) (length s) l))

long_end : (n s : List ℕ) → length s < length n → ends_with eqb s n ≡ suffix_of n s
unfolding suffix_of
long_end n s l =
    let last = drop (length s - length n) s in
    equal_pointwise n last
    ∙ unequal n last (λ e. omega (arith, length-drop (length s - length n) s, ap length e))
    ∙ sym (simp (lt-leb (length n) (length s) l))

pub ends_suffix : (n s : List ℕ) → ends_with eqb s n ≡ suffix_of n s
ends_suffix n s =
    ⊎_elim (λ e. fits_end n s (leb-true (length n) (length s) e)) (λ e. long_end n s (leb-false (length n) (length s) e)) (split (leb (length n) (length s)))

pub suffix_stripped : (n s : List ℕ) (r : Bool) → pointwise eqb (drop (length s - length n) s) n ≡ r → suffix_of n s ≡ r
suffix_stripped n s r e = sym (ends_suffix n s) ∙ nat_list_eq_equiv.symm n (drop (length s - length n) s) ∙ e

pub suffix_fits : (n s : List ℕ) → suffix_of n s ≡ true → length n ≤ length s
unfolding suffix_of
suffix_fits n s e = leb-true (length n) (length s) (both (leb (length n) (length s)) (prefix_of n (drop (length s - length n) s)) e).0

-- An empty text takes nothing away.
empty_takes_none : (m : ℕ) (s : List ℕ) → trimmed_times m [] s ≡ length s
unfolding trimmed_times suffix_of prefix_of
empty_takes_none zero s = refl
empty_takes_none (suc m) s =
    let l : 0 ≤ length s = omega arith in
    let e : length s - 0 ≡ length s = omega arith in
    simp (le-leb 0 (length s) l) (empty_takes_none m (take (length s - 0) s) ∙ length-take-le (length s - 0) s (omega arith) ∙ e)

pub empty_trims : (n s : List ℕ) → length n ≡ 0 → length s ≡ trimmed_text n s
empty_trims [] s e = sym (empty_takes_none (length s) s)
empty_trims (x ∷ n) s e = absurd (omega arith)

-- A text may be taken away as often as the other has bytes, and no more often.
module _ (n : List ℕ) (some : 0 < length n) where
  nothing_left : (s : List ℕ) (m : ℕ) → length s ≡ 0 → trimmed_times m n s ≡ length s
  unfolding trimmed_times suffix_of
  nothing_left s zero e = refl
  nothing_left s (suc m) e = let l : length s < length n = omega arith in simp (lt-leb (length n) (length s) l)

  often : (s : List ℕ) (j k : ℕ) → length s ≤ j → length s ≤ k → trimmed_times j n s ≡ trimmed_times k n s
  unfolding trimmed_times
  often s zero k a b = sym (nothing_left s k (omega arith))
  often s (suc j) zero a b = nothing_left s (suc j) (omega arith)
  often s (suc j) (suc k) a b =
      let left = length-take-le (length s - length n) s (omega arith) in
      ap (λ t. cond (suffix_of n s) t (length s)) (often (take (length s - length n) s) j k (omega arith) (omega arith))

  pub trimmed_once : (s : List ℕ) → trimmed_text n s ≡ cond (suffix_of n s) (trimmed_text n (take (length s - length n) s)) (length s)
  unfolding trimmed_times
  trimmed_once s =
      let rest = take (length s - length n) s in
      let left = length-take-le (length s - length n) s (omega arith) in
      often s (length s) (suc (length s)) (omega arith) (omega arith)
      ∙ ap (λ t. cond (suffix_of n s) t (length s)) (often rest (length s) (length rest) (omega arith) (omega arith))

-- What is left is no longer than the text.
either : {a b c : ℕ} (t : Bool) → a ≤ c → b ≤ c → cond t a b ≤ c
either true p q = p
either false p q = q

times_fit : (n : List ℕ) (m : ℕ) (s : List ℕ) → trimmed_times m n s ≤ length s
unfolding trimmed_times
times_fit n zero s = omega arith
times_fit n (suc m) s =
    let k = length s - length n in
    either (suffix_of n s) (omega (arith, times_fit n m (take k s), length-take-le k s (omega arith))) (omega arith)

pub trimmed_text_fits : (n s : List ℕ) → trimmed_text n s ≤ length s
trimmed_text_fits n s = times_fit n (length s) s
