-- Document 01's cases of silence. Definitions only.
use Rattle.std.specs.Prelude.{◌≡◌, true, [], ◌⊎◌}
use Rattle.tables.specs.Pools.{Pools}
use Rattle.tables.specs.declared.lent.Tables.{Tables}
use Rattle.calls.specs.Calls.{reported_of, call_rows}
use Rattle.best_rows.specs.Serving.{best_row}
use Rattle.sailing_rows.specs.Rows.{is_cancelled}
use Rattle.voyages.specs.Voyage.{unplaced}
use Rattle.plans.specs.Plan.{pin_at}

module _ (p : Pools) (t : Tables) where
  abbrev pub Cancelled : Type 0
  Cancelled = is_cancelled p.bytes t.sailing ≡ true

  abbrev pub NoUpdates : Type 0
  NoUpdates = t.updates.sequence.n ≡ 0

  -- there is no call, and the best stop cannot be placed
  abbrev pub Nowhere : Type 0
  Nowhere = (call_rows p.bytes p.words (reported_of t) ≡ []) × (pin_at p.bytes p.words p.reals t (best_row p.bytes t.updates p.words) ≡ unplaced)

  abbrev pub SilentCase : Type 0
  SilentCase = Cancelled ⊎ (NoUpdates ⊎ Nowhere)
