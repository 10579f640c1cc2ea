-- `row_lookup::search::seek` meets its contract. The loop's invariant: rows below lo come before what is asked of, and rows from hi on do not.
use borrow.Author.Rules.{rules}
use native.Mathlib.Omega.{arith}
use Prim.Native.Nat.{◌+◌, ◌-◌, ◌/◌, ℕ}
use mathlib.Core.List.{List}
use mathlib.Core.Path.{◌∙◌, ◌≡◌, sym}
use Rattle.ids.proofs.ByteOrder.{clash}
use Rattle.column_order.specs.Order.{cmp_parts}
use Rattle.row_stands.specs.Stands.{key_of, parts_at, stand_of}
use Rattle.row_lookup.proofs.Halves.{Bracket, down, found, start, up}
use Rattle.row_lookup.proofs.search.seek.Given as goal

abbrev pub invariant-loop-lo : goal.invariant-loop-lo
invariant-loop-lo l = Bracket (parts_at l.lent.bytes.now l.lent.words.now l.rows) (key_of l.rows l.a l.b l.day l.flag) l.n l.lo l.hi

abbrev pub decreases-loop-lo : goal.decreases-loop-lo
decreases-loop-lo l = l.hi - l.lo
