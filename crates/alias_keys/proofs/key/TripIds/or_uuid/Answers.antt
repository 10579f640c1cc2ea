use mathlib.Core.Path.{◌∙◌, sym}
use Rattle.alias_keys.proofs.Keys.{uuid_keys_lem, no_uuid_keys}
use Rattle.alias_keys.proofs.key.TripIds.or_uuid.Goals as goal

pub returns-then-is_uuid : goal.returns-then-is_uuid
returns-then-is_uuid c =
    let a = c.args in
    let t = a.self.now in
    uuid_keys_lem t.lent.bytes.now t.lent.words.now t.tripkeys t.aliases a.j.now a.found (sym c.is_uuid.ensures ∙ c.if-is_uuid.true)
    c.or_alias-first.ensures c.or_alias-second.ensures c.or_alias.ensures

pub returns : goal.returns
returns c =
    let a = c.args in
    let t = a.self.now in
    no_uuid_keys t.lent.bytes.now t.lent.words.now t.tripkeys t.aliases a.j.now a.found (sym c.is_uuid.ensures ∙ c.if-is_uuid.false)
