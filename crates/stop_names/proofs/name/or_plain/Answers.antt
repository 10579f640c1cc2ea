use Rattle.stop_keys.proofs.Keys.{plain_keys_lem}
use Rattle.stop_names.proofs.name.or_plain.Goals as goal

pub returns : goal.returns
returns c =
    let a = c.args in
    let t = a.stops.now in
    plain_keys_lem t.lent.bytes.now t.lent.words.now t.lookup a.d.now a.found
    c.or_stop-first.ensures c.or_stop-second.ensures c.or_stop-third.ensures c.or_stop-fourth.ensures c.or_stop-fifth.ensures c.or_stop.ensures
