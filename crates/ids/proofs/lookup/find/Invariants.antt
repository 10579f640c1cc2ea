-- `ids::lookup::find` meets its contract. The loop's invariant: rows below lo come before the key, and rows from hi on after it.
use borrow.Author.Rules.{rules}
use native.Mathlib.Omega.{arith}
use Prim.Native.Nat.{◌+◌, ◌-◌, ◌/◌, ℕ}
use mathlib.Core.List.{List}
use mathlib.Core.Path.{◌∙◌, ◌≡◌, ap, sym}
use Rattle.ids.specs.Cmp.{cmp}
use Rattle.ids.specs.Pool.{id_of}
use Rattle.ids.proofs.Rows.{Bracket, down, hit, miss, start, up}
use Rattle.ids.proofs.lookup.find.Given as goal

abbrev pub invariant-loop-lo : goal.invariant-loop-lo
invariant-loop-lo l = Bracket (id_of l.lent.bytes.now l.lent.words.now l.col) l.col.starts.n l.key l.lo l.hi

abbrev pub decreases-loop-lo : goal.decreases-loop-lo
decreases-loop-lo l = l.hi - l.lo
