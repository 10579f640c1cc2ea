use mathlib.Core.Bool.{not}
use mathlib.Core.Path.{◌∙◌, ap, sym}
use lib.ListN.{length}
use Rattle.ids.specs.Bytes.{is_of}
use Rattle.ids.specs.First.{or_at}
use Rattle.ids.proofs.Search.{first_hit}
use Rattle.text_runs.specs.Runs.{fails_at, run_of}
use Rattle.text_runs.proofs.byte.run.Goals as goal

pub returns-then-not-of_kind : goal.returns-then-not-of_kind
unfolding run_of
returns-then-not-of_kind c =
    let s = c.args.s.now in
    ap (or_at (length s))
    (first_hit (fails_at (is_of c.args.kind) s) _ c.loop-k.k c.loop-k-test.true (ap not (sym c.of_kind.ensures ∙ c.if-not-of_kind.true)) c.loop-k.invariant)
