-- A column copied into an output, element by element. Assumes nothing.
use Prim.Native.Nat.{ℕ, zero, suc, ◌+◌, ◌<◌, ◌≤◌}
use native.Mathlib.Omega.{arith}
use mathlib.Core.Path.{◌≡◌, refl, sym, ap, ◌∙◌}
use mathlib.Core.List.{List, [], ◌∷◌, ◌++◌, append-nil}
use lib.ListN.{length, length-set, take, drop, get_or, set}
use lib.Seq.{paste, paste-suc}

module _ {A : Type 0} (from out₀ : List A) where
  abbrev begun : ℕ → List A
  begun k = take k from ++ drop k out₀

  pasted : (k : ℕ) → paste out₀ 0 from k ≡ begun k
  pasted k = let z : 0 + k ≡ k = omega arith in ap (λ (n : ℕ). take k from ++ drop n out₀) z

  nothing_left : (out : List A) (k : ℕ) → length out ≤ k → drop k out ≡ []
  nothing_left [] zero h = refl
  nothing_left [] (suc k) h = refl
  nothing_left (x ∷ out) zero h = absurd (omega arith)
  nothing_left (x ∷ out) (suc k) h = nothing_left out k (omega arith)

  -- the loop: where it stands after k elements
  pub record Copied (out : List A) (k : ℕ) : Type 0 where
    pub so_far : k ≤ length out₀
    pub long : length out ≡ length out₀
    pub begins : out ≡ begun k

  pub copy_starts : Copied out₀ 0
  copy_starts = record { so_far = omega arith; long = refl; begins = refl }

  module _ {out : List A} {k : ℕ} (f : Copied out k) where
    next_begun : (z : A) → k < length out₀ → length out₀ ≤ length from → set out k (get_or from k z) ≡ begun (suc k)
    next_begun z h l =
        let i : k ≡ 0 + k = omega arith in
        ap (λ (xs : List A). set xs k (get_or from k z)) (f.begins ∙ sym (pasted k))
        ∙ ap (λ (n : ℕ). set (paste out₀ 0 from k) n (get_or from k z)) i
        ∙ paste-suc out₀ 0 from k z (omega arith) (omega arith)
        ∙ pasted (suc k)

    pub copy_on : (z : A) → k < length out₀ → length out₀ ≤ length from → Copied (set out k (get_or from k z)) (k + 1)
    copy_on z h l =
        let i : suc k ≡ k + 1 = omega arith in
        record { so_far = omega arith; long = simp length-set f.long; begins = next_begun z h l ∙ ap begun i }

    pub copy_ends : length out ≤ k → out ≡ take (length out₀) from
    copy_ends h =
        let i : k ≡ length out₀ = omega (arith, f.so_far, f.long) in
        f.begins ∙ rw (nothing_left out₀ k (omega arith), append-nil, i)
