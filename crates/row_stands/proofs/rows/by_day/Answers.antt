-- `row_stands::rows::by_day` meets its contract. Each return: the first part that differs decides.
use borrow.Author.Rules.{rules}
use mathlib.Core.Path.{◌∙◌, ◌≡◌, ap, refl, sym}
use mathlib.Core.List.{[], ◌∷◌}
use Rattle.ids.specs.Pool.{cell_of}
use Rattle.days.specs.Days.{ordinal}
use Rattle.ids.proofs.ByteOrder.{head_less, head_more, same_equal}
use Rattle.column_order.proofs.Keys.{only_part, part_less, part_more, part_same, two_less, two_more, two_same}
use Rattle.row_stands.specs.Stands.{key_of, parts_at, stand_of}
use Prim.Native.Nat.{ℕ}
use native.Mathlib.Omega.{arith}
use Rattle.columns.proofs.bit.Reads as bit-reads
use Rattle.column_order.proofs.numbers.Reads as numbers-reads
use Rattle.days.proofs.ordinal_of.Reads as ordinal-of-reads
use Rattle.ids.proofs.cell.Reads as cell-reads
use Rattle.row_stands.proofs.rows.by_names.Reads as by-names-reads
use Rattle.row_stands.proofs.rows.by_day.Goals as goal

-- the row's date is on the day
on_day : {w v o d : ℕ} → w ≡ v → o ≡ ordinal w → o ≡ d → ordinal v ≡ d
on_day e f q = sym (rw e at f) ∙ q

pub returns-in-Less : goal.returns-in-Less
unfolding stand_of parts_at key_of
returns-in-Less c = two_less _ _ _ _ _ _ c.by_names.ensures c.in-Less.is

pub returns-in-Greater : goal.returns-in-Greater
unfolding stand_of parts_at key_of
returns-in-Greater c = two_more _ _ _ _ _ _ c.by_names.ensures c.in-Greater.is

pub returns-then-o-day : goal.returns-then-o-day
unfolding stand_of parts_at key_of
returns-then-o-day c = two_same _ _ _ _ _ _ c.by_names.ensures c.in-Equal.is (part_less _ _ _ _ refl (head_less _ _ [] [] (rw (← c.cell.ensures, ← c.ordinal_of-o.ensures) c.if-o-day.true)))

pub returns-then-day-o : goal.returns-then-day-o
unfolding stand_of parts_at key_of
returns-then-day-o c = two_same _ _ _ _ _ _ c.by_names.ensures c.in-Equal.is (part_more _ _ _ _ refl (head_more _ _ [] [] (rw (← c.cell.ensures, ← c.ordinal_of-o.ensures) c.if-day-o.true)))

pub returns : goal.returns
unfolding stand_of parts_at key_of
returns c = two_same _ _ _ _ _ _ c.by_names.ensures c.in-Equal.is (part_same _ _ _ _ refl ((same_equal _ _).1 (ap (λ (x : ℕ). x ∷ []) (on_day c.cell.ensures c.ordinal_of-o.ensures (omega (arith, c.if-day-o.false, c.if-o-day.false))))) ((rw c.bit.ensures at c.numbers.ensures) ∙ sym (only_part _ _)))
