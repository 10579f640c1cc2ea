use native.Mathlib.Omega.{arith}
use mathlib.Core.Path.{◌≡◌, ◌∙◌, ap, sym}
use Rattle.ids.specs.First.{is_at, or_at}
use Rattle.calls.specs.Calls.{call_rows, call_stops}
use Rattle.calls.proofs.Calls.{stop_fits}
use Rattle.row_lists.proofs.Writing.{collect_starts, collect_few, collect_leaves, collect_takes}
use Rattle.calls.proofs.call.collect.Goals as goal

pub loop-k-init : goal.loop-k-init
loop-k-init c = collect_starts _ _ _ _

pub call_stop-requires : goal.call_stop-requires
call_stop-requires c = record { ready = c.requires.ready; k_lt_n = c.loop-k-test.true }

pub loop-k-preserved-in_default : goal.loop-k-preserved-in_default
loop-k-preserved-in_default c = collect_leaves _ _ _ _ c.loop-k.invariant (ap is_at (sym c.call_stop.ensures ∙ c.in_default.is))

pub offset_bounds-rows-n : goal.offset_bounds-rows-n
offset_bounds-rows-n c = omega (arith, collect_few _ _ _ _ c.loop-k.invariant)

pub bounds-rows-n : goal.bounds-rows-n
bounds-rows-n c = let h = c.loop-k.invariant in omega (arith, h.rows_long, collect_few _ _ _ _ h, c.requires.n_in_bounds)

pub overflow_cast-stops : goal.overflow_cast-stops
overflow_cast-stops c = let a = c.args in record { fits = stop_fits a.lent.now.bytes.now a.lent.now.words.now a.v c.words_fit.ensures _ _ (sym c.call_stop.ensures ∙ c.in-Some.is) }

pub offset_bounds-stops-n : goal.offset_bounds-stops-n
offset_bounds-stops-n c = omega (arith, collect_few _ _ _ _ c.loop-k.invariant)

pub bounds-stops-n : goal.bounds-stops-n
bounds-stops-n c = let h = c.loop-k.invariant in omega (arith, h.stops_long, collect_few _ _ _ _ h, c.requires.n_in_bounds_2)

pub overflow_add-n : goal.overflow_add-n
overflow_add-n c = omega (arith, collect_few _ _ _ _ c.loop-k.invariant)

pub loop-k-preserved : goal.loop-k-preserved
loop-k-preserved c =
    let e = sym c.call_stop.ensures ∙ c.in-Some.is in
    collect_takes _ _ _ _ c.loop-k.invariant (ap is_at e) (omega (arith, c.requires.n_in_bounds)) (omega (arith, c.requires.n_in_bounds_2)) (sym (ap (or_at 0) e))

pub shape_of-rows : goal.shape_of-rows
shape_of-rows c = omega (arith, c.loop-k.invariant.rows_long)

pub shape_of-stops : goal.shape_of-stops
shape_of-stops c = omega (arith, c.loop-k.invariant.stops_long)

pub returns : goal.returns
unfolding call_rows call_stops
returns c =
    let e : c.loop-k.k ≡ c.args.v.updates.sequence.n = omega arith in
    let h = rw e at c.loop-k.invariant in record { value = h.count; rows_after = h.rows_are; stops_after = h.stops_are }
