-- What the two ranges contain, by the order of IEEE 754.
use mathlib.Core.Path.{sym, ◌∙◌}
use lib.Ieee.{of_bits, of_int, neg}
use Rattle.globe.specs.Globe.{on_globe, within}
use Rattle.globe.proofs.Between.{partial_le_is}
use Rattle.globe.proofs.position.on_globe.Goals as goal

pub returns-then-contains : goal.returns-then-contains
unfolding on_globe within of_bits of_int neg
returns-then-contains c =
    let n = c.new.ensures in
    let m = c.new-then-contains.ensures in
    let lat = simp (n.start, n.end, n.exhausted, partial_le_is) at c.contains.ensures.value in
    let lon = simp (m.start, m.end, m.exhausted, partial_le_is) at c.contains-then-contains.ensures.value in rw (sym lat ∙ c.if-contains.true) lon

pub returns-else-contains : goal.returns-else-contains
unfolding on_globe within of_bits of_int neg
returns-else-contains c =
    let n = c.new.ensures in
    let lat = simp (n.start, n.end, n.exhausted, partial_le_is) at c.contains.ensures.value in rw (sym lat ∙ c.if-contains.false) c.if-contains.false
