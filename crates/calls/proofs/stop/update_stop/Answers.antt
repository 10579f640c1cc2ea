use mathlib.Core.Path.{◌∙◌, sym}
use Rattle.calls.specs.Calls.{update_stop}
use Rattle.calls.proofs.stop.update_stop.Goals as goal

pub stop_of-requires : goal.stop_of-requires
stop_of-requires c = record { feed_len_bound = rw c.id-feed.ensures c.requires.ready.feed; s_len_bound = λ e. rw c.id-name.ensures (c.requires.ready.names c.args.k c.requires.k_lt_n (sym c.is_set-has.ensures ∙ e)) }

pub returns : goal.returns
unfolding update_stop
returns c = rw (c.stop_of.ensures, c.cell-sequence.ensures, c.id-name.ensures, c.is_set-has.ensures, c.base-base.ensures, c.id.ensures, c.id-feed.ensures)
