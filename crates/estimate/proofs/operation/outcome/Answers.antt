-- `estimate::operation::outcome` meets its contract.
use native.Mathlib.Omega.{arith}
use Prim.Native.Nat.{ℕ, ◌≤◌}
use mathlib.Core.Path.{◌≡◌, sym, ◌∙◌}
use mathlib.Core.List.{List}
use lib.Ieee.{Float}
use lib.IntN.{ℤ}
use lib.ListN.{length}
use lib.Seq.{length-take-le}
use Rattle.tables.specs.Pools.{pools}
use Rattle.tables.specs.Bounds.{chart_bounds}
use Rattle.tables.specs.declared.lent.Tables.{Tables}
use Rattle.verdicts.specs.Refuse.{refusal_of}
use Rattle.checks.specs.Operations.{estimate_causes}
use Rattle.calls.specs.Calls.{reported_of, call_rows}
use Rattle.calls.proofs.Calls.{stops_count}
use Rattle.estimate.proofs.Granted.{collectable, count_fits}
use Rattle.estimate.proofs.Outcomes.{first_written, outcome_cancelled, outcome_pinned, outcome_called}
use Rattle.estimate.proofs.operation.outcome.Goals as goal

-- the number of the calls
fits : (bytes words : List ℕ) (times : List ℤ) (reals dists : List Float) (t : Tables) → refusal_of (pools bytes words times reals dists) (estimate_causes chart_bounds t) ≡ 0 →
    (n : ℕ) → n ≡ length (call_rows bytes words (reported_of t)) → n ≤ 256
fits bytes words times reals dists t e n f = count_fits (pools bytes words times reals dists) t e n f

pub returns-then-is_cancelled : goal.returns-then-is_cancelled
returns-then-is_cancelled c = let a = c.args in
    outcome_cancelled (pools a.lent.now.bytes.now a.lent.now.words.now a.lent.now.times.now a.lent.now.reals.now a.lent.now.dists.now) a.t (sym c.is_cancelled.ensures ∙ c.if-is_cancelled.true)

pub collect-n-requires : goal.collect-n-requires
collect-n-requires c = let a = c.args in
    let h = collectable (pools a.lent.now.bytes.now a.lent.now.words.now a.lent.now.times.now a.lent.now.reals.now a.lent.now.dists.now) a.t c.requires in
    rw c.reported.ensures (record { ready = h.0; n_in_bounds = h.1.0; n_in_bounds_2 = h.1.1 })

pub pin-requires : goal.pin-requires
pin-requires c = let a = c.args in (collectable (pools a.lent.now.bytes.now a.lent.now.words.now a.lent.now.times.now a.lent.now.reals.now a.lent.now.dists.now) a.t c.requires).0

pub returns-then-n-eq0 : goal.returns-then-n-eq0
returns-then-n-eq0 c = let a = c.args in
    let e = rw c.reported.ensures at c.collect-n.ensures.value in
    rw c.pin.ensures (outcome_pinned (pools a.lent.now.bytes.now a.lent.now.words.now a.lent.now.times.now a.lent.now.reals.now a.lent.now.dists.now) a.t (sym c.is_cancelled.ensures ∙ c.if-is_cancelled.false) c.collect-n.result e c.if-n-eq0.true)

pub slice_bounds-rows-end : goal.slice_bounds-rows-end
slice_bounds-rows-end c = let a = c.args in
    let e = rw c.reported.ensures at c.collect-n.ensures.value in
    omega (arith, fits a.lent.now.bytes.now a.lent.now.words.now a.lent.now.times.now a.lent.now.reals.now a.lent.now.dists.now a.t c.requires c.collect-n.result e)

pub slice_bounds-called-end : goal.slice_bounds-called-end
slice_bounds-called-end c = let a = c.args in
    let e = rw c.reported.ensures at c.collect-n.ensures.value in
    sym (length-take-le _ c.collect-n.new.rows (omega (arith, fits a.lent.now.bytes.now a.lent.now.words.now a.lent.now.times.now a.lent.now.reals.now a.lent.now.dists.now a.t c.requires c.collect-n.result e)))

pub slice_bounds-stops-end : goal.slice_bounds-stops-end
slice_bounds-stops-end c = let a = c.args in
    let e = rw c.reported.ensures at c.collect-n.ensures.value in
    omega (arith, fits a.lent.now.bytes.now a.lent.now.words.now a.lent.now.times.now a.lent.now.reals.now a.lent.now.dists.now a.t c.requires c.collect-n.result e)

pub slice_bounds-called-end-2 : goal.slice_bounds-called-end-2
slice_bounds-called-end-2 c = let a = c.args in
    let e = rw c.reported.ensures at c.collect-n.ensures.value in
    sym (length-take-le _ c.collect-n.new.stops (omega (arith, fits a.lent.now.bytes.now a.lent.now.words.now a.lent.now.times.now a.lent.now.reals.now a.lent.now.dists.now a.t c.requires c.collect-n.result e)))

pub called-requires : goal.called-requires
called-requires c = let a = c.args in
    let e = rw c.reported.ensures at c.collect-n.ensures.value in
    let f = rw c.reported.ensures at c.collect-n.ensures.rows_after in
    let g = rw c.reported.ensures at c.collect-n.ensures.stops_after in
    record {
      t_value = c.requires;
      rows_value = first_written c.collect-n.result _ _ c.collect-n.new.rows f e;
      stops_value = first_written c.collect-n.result _ _ c.collect-n.new.stops g (e ∙ sym (stops_count a.lent.now.bytes.now a.lent.now.words.now (reported_of a.t)));
    }

pub returns : goal.returns
returns c = let a = c.args in
    let e = rw c.reported.ensures at c.collect-n.ensures.value in
    rw c.called.ensures (outcome_called (pools a.lent.now.bytes.now a.lent.now.words.now a.lent.now.times.now a.lent.now.reals.now a.lent.now.dists.now) a.t (sym c.is_cancelled.ensures ∙ c.if-is_cancelled.false) c.collect-n.result e c.if-n-eq0.false)
