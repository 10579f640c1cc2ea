use mathlib.Core.Path.{sym}
use Rattle.stop_ids.proofs.stop.by_name.Goals as goal

pub named_stop-requires : goal.named_stop-requires
named_stop-requires c = record { feed_len_bound = c.requires.feed_len_bound; s_len_bound = c.requires.s_len_bound c.if-named.true }

pub returns-then-named : goal.returns-then-named
returns-then-named c = rw c.if-named.true c.named_stop.ensures

pub returns : goal.returns
returns c = rw c.if-named.false
