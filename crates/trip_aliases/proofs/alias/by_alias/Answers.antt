-- Each call is handed what the one before has found, and the keys come in their order.
use Rattle.alias_keys.proofs.Keys.{base_keys}
use Rattle.trip_aliases.proofs.alias.by_alias.Goals as goal

pub returns : goal.returns
returns c =
    let t = c.args.trips.now in
    base_keys t.lent.bytes.now t.lent.words.now t.tripkeys t.aliases c.args.base.now c.raw-raw.result.now c.without_loc.result.now c.journey_id-j.result.now
    c.raw-raw.ensures c.without_loc.ensures c.journey_id-j.ensures
    c.or_alias-first.ensures c.or_alias-second.ensures c.or_alias-third.ensures c.or_alias-fourth.ensures c.or_uuid-fifth.ensures c.or_local.ensures
