use native.Mathlib.Omega.{arith}
use mathlib.Core.Path.{◌∙◌, sym}
use lib.Seq.{length-take-le}
use Rattle.stop_keys.proofs.Keys.{own_keys, feed_too, composed}
use Rattle.stop_names.proofs.name.named_stop.Goals as goal

pub returns-then-contains : goal.returns-then-contains
returns-then-contains c =
    let a = c.args in
    let t = a.stops.now in
    own_keys t.lent.bytes.now t.lent.words.now t.lookup a.feed.now a.s.now c.or_text-found.ensures (sym c.contains.ensures ∙ c.if-contains.true)

pub slice_bounds-or_text-end : goal.slice_bounds-or_text-end
slice_bounds-or_text-end c = sym (length-take-le _ _ (omega arith))

pub returns : goal.returns
returns c =
    let a = c.args in
    let t = a.stops.now in
    feed_too t.lent.bytes.now t.lent.words.now t.lookup a.feed.now a.s.now c.or_text-found.ensures (sym c.contains.ensures ∙ c.if-contains.false)
    (composed a.feed.now a.s.now c.put-i.ensures.1 c.put-j.ensures.1 c.put-n.ensures.1) c.or_text.ensures
