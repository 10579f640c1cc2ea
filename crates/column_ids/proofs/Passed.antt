-- What is so of each id that counts where a test of its column is false. Assumes nothing.
use Prim.Native.Nat.{ℕ, zero, suc, ◌<◌, ◌≤◌, min}
use native.Mathlib.Omega.{arith}
use mathlib.Core.Path.{◌≡◌, refl}
use mathlib.Core.Bool.{Bool, true, false, ◌&&◌, not}
use mathlib.Core.List.{List}
use borrow.Author.Tests.{ltb-false, eqb-false}
use lib.Dec.{eqb}
use lib.ListN.{length, get_or}
use Rattle.columns.specs.Rows.{some, counts, among}
use Rattle.columns.proofs.Passed.{fails, neither, no_fault}
use Rattle.column_ids.specs.Text.{bad_byte_at, bad_text, bad_id, id_at, bad_id_at}

-- A text: each byte is printable.
pub printable : (s : List ℕ) → bad_text s ≡ false → (k : ℕ) → k < length s → (32 ≤ get_or s k 0) × (get_or s k 0 ≤ 126)
unfolding bad_text bad_byte_at
printable s e k l = let h = neither _ _ (fails (bad_byte_at s) (length s) e k l) in (ltb-false _ _ h.0, ltb-false _ _ h.1)

-- A column of ids of which no row that counts is at fault.
module _ (all : Bool) (flags bytes starts lens : List ℕ) (empty : Bool) (e : some (among all flags (bad_id_at bytes starts lens empty)) (min (length starts) (length lens)) ≡ false) (k : ℕ) (l : k < min (length starts) (length lens)) (c : counts all flags k ≡ true) where
  good : (bad_text (id_at bytes starts lens k) ≡ false) × ((eqb (length (id_at bytes starts lens k)) 0 && not empty) ≡ false)
  unfolding bad_id_at bad_id
  good = neither _ _ (no_fault all flags (bad_id_at bytes starts lens empty) _ e k l c)

  pub id_printable : (j : ℕ) → j < length (id_at bytes starts lens k) → (32 ≤ get_or (id_at bytes starts lens k) j 0) × (get_or (id_at bytes starts lens k) j 0 ≤ 126)
  id_printable = printable (id_at bytes starts lens k) good.0

  pub id_not_empty : empty ≡ false → 0 < length (id_at bytes starts lens k)
  id_not_empty f = pos_of _ (eqb-false _ _ (left _ (simp f at good.1))) where
    pos_of : (n : ℕ) → (n ≡ 0 → ⊥) → 0 < n
    pos_of zero h = absurd (h refl)
    pos_of (suc n) h = omega arith

    left : (a : Bool) → (a && true) ≡ false → a ≡ false
    left true e = e
    left false e = refl
