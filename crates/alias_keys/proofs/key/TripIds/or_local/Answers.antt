use mathlib.Core.Path.{◌∙◌, sym}
use Rattle.alias_keys.proofs.Keys.{local_keys_lem, no_local_keys}
use Rattle.alias_keys.proofs.key.TripIds.or_local.Goals as goal

pub returns-then-begins : goal.returns-then-begins
returns-then-begins c =
    let a = c.args in
    let t = a.self.now in
    local_keys_lem t.lent.bytes.now t.lent.words.now t.tripkeys t.aliases a.j.now a.found (sym c.begins.ensures ∙ c.if-begins.true)
    c.or_alias-first.ensures c.or_alias.ensures

pub returns : goal.returns
returns c =
    let a = c.args in
    let t = a.self.now in
    no_local_keys t.lent.bytes.now t.lent.words.now t.tripkeys t.aliases a.j.now a.found (sym c.begins.ensures ∙ c.if-begins.false)
