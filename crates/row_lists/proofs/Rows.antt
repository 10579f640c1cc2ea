-- Rows that pass a test. Assumes nothing.
use Prim.Native.Nat.{ℕ, zero, suc, ◌+◌, ◌<◌, ◌≤◌}
use native.Mathlib.Omega.{arith}
use native.Mathlib.Nat.{eq-or-lt_of_le, le_of_suc-le-suc}
use mathlib.Core.Path.{◌≡◌, refl, sym, ap, ◌∙◌}
use mathlib.Core.Logic.{⊎_elim}
use mathlib.Core.Bool.{Bool, true, false, cond}
use mathlib.Core.List.{List, [], ◌∷◌, ◌++◌, append-nil}
use lib.ListN.{length, get_or, length-append, get_or-append}
use lib.Seq.{get_or-append-add}
use Rattle.row_lists.specs.Rows.{passing}

module _ (p : ℕ → Bool) where
  taken : (k : ℕ) → p k ≡ true → passing p (suc k) ≡ passing p k ++ (k ∷ [])
  unfolding passing
  taken k t = rw t

  left : (k : ℕ) → p k ≡ false → passing p (suc k) ≡ passing p k
  unfolding passing
  left k t = rw t (append-nil (passing p k))

  -- a row that passes comes after those before it
  pub takes_row : (k : ℕ) → p k ≡ true → passing p (k + 1) ≡ passing p k ++ (k ∷ [])
  takes_row k t = let e : k + 1 ≡ suc k = omega arith in rw e (taken k t)

  pub leaves_row : (k : ℕ) → p k ≡ false → passing p (k + 1) ≡ passing p k
  leaves_row k t = let e : k + 1 ≡ suc k = omega arith in rw e (left k t)

  one_at_most : (n : ℕ) (xs : List ℕ) (b : Bool) → length xs ≤ n → length (xs ++ cond b (n ∷ []) []) ≤ suc n
  one_at_most n xs true l = omega (arith, length-append xs (n ∷ []))
  one_at_most n xs false l = omega (arith, length-append xs [])

  -- as many at most as there are rows
  pub passing_few : (n : ℕ) → length (passing p n) ≤ n
  unfolding passing
  passing_few zero = omega arith
  passing_few (suc n) = one_at_most n (passing p n) (p n) (passing_few n)

  -- element i of the list, one of the rows
  pub record Row (n i : ℕ) : Type 0 where
    pub below : get_or (passing p n) i 0 < n
    pub passes : p (get_or (passing p n) i 0) ≡ true

  last_row : (xs : List ℕ) (k i : ℕ) → i ≡ length xs → get_or (xs ++ (k ∷ [])) i 0 ≡ k
  last_row xs k i e = let z : i ≡ length xs + 0 = omega arith in rw z (get_or-append-add xs (k ∷ []) 0 0)

  pub rows_pass : (n i : ℕ) → i < length (passing p n) → Row n i
  rows_pass zero i l = absurd (omega (arith, passing_few 0))
  rows_pass (suc n) i l = go (rows_pass n i) (p n) refl where
    old : (i < length (passing p n) → Row n i) → (xs : List ℕ) → passing p (suc n) ≡ passing p n ++ xs → i < length (passing p n) → Row (suc n) i
    old before xs e m =
        let h = before m in
        let q : get_or (passing p (suc n)) i 0 ≡ get_or (passing p n) i 0 = rw e (get_or-append (passing p n) xs 0 i m) in
        record { below = omega (arith, h.below); passes = rw q h.passes }

    new : p n ≡ true → i ≡ length (passing p n) → Row (suc n) i
    new t m =
        let q : get_or (passing p (suc n)) i 0 ≡ n = rw (taken n t) (last_row (passing p n) n i m) in
        record { below = omega arith; passes = rw q t }

    go : (i < length (passing p n) → Row n i) → (b : Bool) → p n ≡ b → Row (suc n) i
    go before true t =
        let m : i < suc (length (passing p n)) = omega (arith, l, ap length (taken n t), length-append (passing p n) (n ∷ [])) in
        ⊎_elim (new t) (old before (n ∷ []) (taken n t)) (eq-or-lt_of_le (le_of_suc-le-suc m))
    go before false t = old before [] (left n t ∙ sym (append-nil (passing p n))) (omega (arith, l, ap length (left n t)))

  -- in order
  pub rows_ascend : (n i j : ℕ) → i < j → j < length (passing p n) → get_or (passing p n) i 0 < get_or (passing p n) j 0
  rows_ascend zero i j l m = absurd (omega (arith, passing_few 0))
  rows_ascend (suc n) i j l m = go (rows_ascend n i j l) (p n) refl where
    old : (j < length (passing p n) → get_or (passing p n) i 0 < get_or (passing p n) j 0) → (xs : List ℕ) → passing p (suc n) ≡ passing p n ++ xs →
        j < length (passing p n) → get_or (passing p (suc n)) i 0 < get_or (passing p (suc n)) j 0
    old before xs e q =
        let o : i < length (passing p n) = omega arith in
        rw (e, get_or-append (passing p n) xs 0 i o, get_or-append (passing p n) xs 0 j q) (before q)

    new : p n ≡ true → j ≡ length (passing p n) → get_or (passing p (suc n)) i 0 < get_or (passing p (suc n)) j 0
    new t q =
        let o : i < length (passing p n) = omega arith in
        rw (taken n t, last_row (passing p n) n j q, get_or-append (passing p n) (n ∷ []) 0 i o) (rows_pass n i o).below

    go : (j < length (passing p n) → get_or (passing p n) i 0 < get_or (passing p n) j 0) → (b : Bool) → p n ≡ b → get_or (passing p (suc n)) i 0 < get_or (passing p (suc n)) j 0
    go before true t =
        let q : j < suc (length (passing p n)) = omega (arith, m, ap length (taken n t), length-append (passing p n) (n ∷ [])) in
        ⊎_elim (new t) (old before (n ∷ []) (taken n t)) (eq-or-lt_of_le (le_of_suc-le-suc q))
    go before false t = old before [] (left n t ∙ sym (append-nil (passing p n))) (omega (arith, m, ap length (left n t)))
