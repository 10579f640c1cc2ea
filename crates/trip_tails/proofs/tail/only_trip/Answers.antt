use borrow.Author.Count.{below_none}
use native.Mathlib.Omega.{arith}
use mathlib.Core.Path.{◌∙◌, sym}
use Rattle.ids.proofs.Search.{first_found}
use Rattle.trip_tails.specs.Tails.{only_trip}
use Rattle.trip_tails.proofs.Tails.{up_to_first}
use Rattle.trip_tails.proofs.tail.only_trip.Goals as goal

pub next_row-requires : goal.next_row-requires
next_row-requires c = below_none _

pub overflow_add-k : goal.overflow_add-k
overflow_add-k c = omega (arith, (first_found _ _ _ (sym c.next_row.ensures ∙ c.in-Some.is)).0)

pub next_row-requires-in-Some : goal.next_row-requires-in-Some
next_row-requires-in-Some c = let a = c.args in up_to_first a.lent.now.bytes.now a.lent.now.words.now a.tripkeys a.tail.now _ _ (sym c.next_row.ensures ∙ c.in-Some.is) c.cell.ensures

pub returns-in-Some-next_row : goal.returns-in-Some-next_row
unfolding only_trip
returns-in-Some-next_row c = rw (sym c.next_row.ensures ∙ c.in-Some.is, sym (rw c.cell.ensures at c.next_row-in-Some.ensures) ∙ c.in-Some-next_row.is)

pub returns-in-None-next_row : goal.returns-in-None-next_row
unfolding only_trip
returns-in-None-next_row c = rw (sym c.next_row.ensures ∙ c.in-Some.is, c.cell.ensures, sym (rw c.cell.ensures at c.next_row-in-Some.ensures) ∙ c.in-None-next_row.is)

pub returns-in-None : goal.returns-in-None
unfolding only_trip
returns-in-None c = simp (sym c.next_row.ensures ∙ c.in-None.is)
