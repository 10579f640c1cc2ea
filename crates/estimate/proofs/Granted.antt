-- The calls of a sailing where nothing is refused: their stops may be looked up, and they are few. Assumes nothing.
use Prim.Native.Nat.{ℕ, ◌≤◌}
use native.Mathlib.Omega.{arith}
use mathlib.Core.Path.{◌≡◌, refl}
use mathlib.Core.List.{List}
use lib.ListN.{length}
use Rattle.tables.specs.Pools.{Pools}
use Rattle.tables.specs.Bounds.{chart_bounds}
use Rattle.verdicts.specs.Refuse.{refusal_of}
use Rattle.tables.specs.declared.lent.Tables.{Tables}
use Rattle.checks.specs.Operations.{estimate_causes}
use Rattle.calls.specs.Calls.{reported_of, call_rows}
use Rattle.calls.specs.Calls.{Ready as Reportable}
use Rattle.calls.proofs.Calls.{calls_few}
use Rattle.estimate_facts.proofs.Asked.{calls_ready, updates_few}

module _ (p : Pools) (t : Tables) (e : refusal_of p (estimate_causes chart_bounds t) ≡ 0) where
  -- what stops are found in is in order, and the updates are no more than the rows of the columns for calls
  pub collectable : Reportable p.bytes p.words (reported_of t) × ((t.updates.sequence.n ≤ 256) × (t.updates.sequence.n ≤ 256))
  collectable = (calls_ready p t e, (updates_few p t e, updates_few p t e))

  -- and so are the calls
  pub calls_fit : (rows : List ℕ) → rows ≡ call_rows p.bytes p.words (reported_of t) → length rows ≤ 256
  calls_fit rows f = rw f (omega (arith, calls_few p.bytes p.words (reported_of t), updates_few p t e))

  pub count_fits : (n : ℕ) → n ≡ length (call_rows p.bytes p.words (reported_of t)) → n ≤ 256
  count_fits n f = rw f (calls_fit (call_rows p.bytes p.words (reported_of t)) refl)
