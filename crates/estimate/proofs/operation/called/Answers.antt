-- `estimate::operation::called` meets its contract. The columns are written from their start, and cut at the number of the calls.
use native.Mathlib.Omega.{arith}
use Prim.Native.Nat.{ℕ, ◌≤◌}
use mathlib.Core.Path.{◌≡◌, sym}
use mathlib.Core.List.{List}
use lib.Ieee.{Float}
use lib.IntN.{ℤ}
use lib.ListN.{length, length-take}
use lib.Seq.{length-take-le}
use Rattle.tables.specs.Pools.{pools}
use Rattle.tables.specs.Bounds.{chart_bounds}
use Rattle.tables.specs.declared.lent.Tables.{Tables}
use Rattle.verdicts.specs.Refuse.{refusal_of}
use Rattle.checks.specs.Operations.{estimate_causes}
use Rattle.calls.specs.Calls.{reported_of, call_rows}
use Rattle.estimate.proofs.Granted.{calls_fit}
use Rattle.estimate.proofs.Outcomes.{called_is, arrivals_written, departures_written}
use Rattle.estimate.proofs.operation.called.Goals as goal

few : (bytes words : List ℕ) (times : List ℤ) (reals dists : List Float) (t : Tables) → refusal_of (pools bytes words times reals dists) (estimate_causes chart_bounds t) ≡ 0 →
    (rows : List ℕ) → rows ≡ call_rows bytes words (reported_of t) → length rows ≤ 256
few bytes words times reals dists t e rows f = calls_fit (pools bytes words times reals dists) t e rows f

pub fill_arrivals-requires : goal.fill_arrivals-requires
fill_arrivals-requires c = let a = c.args in few a.lent.now.bytes.now a.lent.now.words.now a.lent.now.times.now a.lent.now.reals.now a.lent.now.dists.now a.t c.requires.t_value a.rows.now c.requires.rows_value

pub fill_departures-requires : goal.fill_departures-requires
fill_departures-requires c = let a = c.args in few a.lent.now.bytes.now a.lent.now.words.now a.lent.now.times.now a.lent.now.reals.now a.lent.now.dists.now a.t c.requires.t_value a.rows.now c.requires.rows_value

pub slice_bounds-arrivals-end : goal.slice_bounds-arrivals-end
slice_bounds-arrivals-end c = let a = c.args in omega (arith, few a.lent.now.bytes.now a.lent.now.words.now a.lent.now.times.now a.lent.now.reals.now a.lent.now.dists.now a.t c.requires.t_value a.rows.now c.requires.rows_value)

pub slice_bounds-at_turn-end : goal.slice_bounds-at_turn-end
slice_bounds-at_turn-end c = let a = c.args in sym (length-take-le _ c.fill_arrivals.new.out (omega (arith, few a.lent.now.bytes.now a.lent.now.words.now a.lent.now.times.now a.lent.now.reals.now a.lent.now.dists.now a.t c.requires.t_value a.rows.now c.requires.rows_value)))

pub slice_bounds-departures-end : goal.slice_bounds-departures-end
slice_bounds-departures-end c = let a = c.args in omega (arith, few a.lent.now.bytes.now a.lent.now.words.now a.lent.now.times.now a.lent.now.reals.now a.lent.now.dists.now a.t c.requires.t_value a.rows.now c.requires.rows_value)

pub slice_bounds-at_turn-end-2 : goal.slice_bounds-at_turn-end-2
slice_bounds-at_turn-end-2 c = let a = c.args in sym (length-take-le _ c.fill_departures.new.out (omega (arith, few a.lent.now.bytes.now a.lent.now.words.now a.lent.now.times.now a.lent.now.reals.now a.lent.now.dists.now a.t c.requires.t_value a.rows.now c.requires.rows_value)))

pub at_turn-requires : goal.at_turn-requires
at_turn-requires c = let a = c.args in
    record { t_value = c.requires.t_value; arrivals_len_bound = simp length-take (omega (arith, few a.lent.now.bytes.now a.lent.now.words.now a.lent.now.times.now a.lent.now.reals.now a.lent.now.dists.now a.t c.requires.t_value a.rows.now c.requires.rows_value)) }

pub returns : goal.returns
returns c =
    let a = c.args in
    let p = pools a.lent.now.bytes.now a.lent.now.words.now a.lent.now.times.now a.lent.now.reals.now a.lent.now.dists.now in
    rw c.at_turn.ensures (called_is p a.t a.rows.now a.stops.now _ _ c.clock.result c.requires.rows_value c.requires.stops_value
    (arrivals_written p a.t a.rows.now _ c.fill_arrivals.new.out c.requires.rows_value c.fill_arrivals.ensures)
    (departures_written p a.t a.rows.now _ c.fill_departures.new.out c.requires.rows_value c.fill_departures.ensures) c.clock.ensures)
