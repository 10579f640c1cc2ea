-- Rows whose ids have a tail: of those up to the first, none names another trip than the first does. Assumes nothing.
use Rattle.std.specs.Prelude.{Some, None}
use Prim.Native.Nat.{ℕ, ◌+◌, ◌<◌, ◌≤◌}
use native.Mathlib.Omega.{arith}
use native.Mathlib.Nat.{eq-or-lt_of_le}
use mathlib.Core.Path.{◌≡◌, refl, sym}
use mathlib.Core.Logic.{⊎_elim}
use mathlib.Core.Bool.{Bool, true, false, not, ◌&&◌}
use mathlib.Core.List.{List}
use borrow.Author.Tests.{eq-eqb}
use lib.Dec.{eqb}
use Rattle.ids.specs.Pool.{cell_of, id_of}
use Rattle.ids.proofs.ByteOrder.{clash}
use Rattle.tables.specs.declared.lent.IdRows.{IdRows}
use Rattle.ids.proofs.Search.{first_before}
use Rattle.trip_tails.specs.Tails.{has_tail, tail_row, tail_first}

none_of : (a b : Bool) → (a && true) ≡ false → (a && b) ≡ false
none_of true b e = clash (cc)
none_of false b e = refl

not_both : (a : Bool) (x y : ℕ) → x ≡ y → (a && not (eqb x y)) ≡ false
not_both true x y e = rw (eq-eqb x y e)
not_both false x y e = refl

module _ (bytes words : List ℕ) (tripkeys : IdRows) (tail : List ℕ) (k trip : ℕ) where
  pub up_to_first : tail_first bytes words tripkeys tail None ≡ Some k → trip ≡ cell_of words tripkeys.row k →
      (j : ℕ) → j < k + 1 → tail_row bytes words tripkeys tail (Some trip) j ≡ false
  unfolding tail_row
  up_to_first e t j l = ⊎_elim here before (eq-or-lt_of_le m) where
    m : j ≤ k
    m = omega arith

    here : j ≡ k → tail_row bytes words tripkeys tail (Some trip) j ≡ false
    here q = rw q (not_both (has_tail tail (id_of bytes words tripkeys.id k)) (cell_of words tripkeys.row k) trip (sym t))

    before : j < k → tail_row bytes words tripkeys tail (Some trip) j ≡ false
    before q = none_of (has_tail tail (id_of bytes words tripkeys.id j)) _ (first_before (tail_row bytes words tripkeys tail None) _ k e j q)
