use Rattle.stop_keys.proofs.Keys.{feed_keys_lem}
use Rattle.stop_keys.proofs.key.StopIds.or_feed.Goals as goal

pub returns : goal.returns
returns c =
    let a = c.args in
    let s = a.self.now in
    feed_keys_lem s.lent.bytes.now s.lent.words.now s.lookup a.feed.now a.d.now a.found
    c.or_stop-first.ensures c.or_stop-second.ensures c.or_stop-third.ensures c.or_stop.ensures
