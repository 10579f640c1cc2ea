-- Rows beside another, as a loop over a line's rows finds them. Assumes nothing.
use Rattle.std.specs.Prelude.{Option, None}
use Prim.Native.Nat.{ℕ, ◌<◌, ◌≤◌}
use mathlib.Core.Path.{◌≡◌, refl}
use mathlib.Core.Logic.{⊎_elim}
use mathlib.Core.Bool.{Bool, true, false, not, ◌&&◌}
use borrow.Author.Tests.{ltb-false, ltb-true}
use lib.Dec.{eqb, ltb}
use Rattle.ids.proofs.ByteOrder.{split}
use Rattle.columns.proofs.Scan.{Missed}
use Rattle.departure_fits.specs.Departures.{near}
use Rattle.departure_fits.specs.declared.departure.Fit.{Fit}
use Rattle.line_crowds.specs.Crowds.{beside}

module _ (fits : ℕ → Option Fit) where
  pub not_beside : (b k : ℕ) → fits k ≡ None → beside fits b k ≡ false
  unfolding beside
  not_beside b k e = rw e (and_false (not (eqb k b))) where
    and_false : (t : Bool) → (t && false) ≡ false
    and_false true = refl
    and_false false = refl

  -- a loop that has seen no row beside b among the first k, where no later one fits
  pub missed_rest : (b k n : ℕ) → Missed (beside fits b) k → ((j : ℕ) → k ≤ j → j < n → fits j ≡ None) → Missed (beside fits b) n
  missed_rest b k n m h = record { before = λ j l. ⊎_elim (λ e. m.before j (ltb-true j k e)) (λ e. not_beside b j (h j (ltb-false j k e) l)) (split (ltb j k)) }

  pub is_beside_row : (b k : ℕ) {f g : Option Fit} → f ≡ fits k → g ≡ fits b → (not (eqb k b) && near f g) ≡ beside fits b k
  unfolding beside
  is_beside_row b k p q = rw (p, q)
