-- What is so of the calls: they are no more than the updates, their rows ascend, and the stop of each has a position and what every stop named in the tables has.
use Rattle.std.specs.Prelude.{Option, Some, None}
use Prim.Native.Nat.{ℕ, zero, suc, ◌+◌, ◌<◌, ◌≤◌}
use native.Mathlib.Omega.{arith}
use mathlib.Core.Path.{◌≡◌, refl, sym, ap, ◌∙◌}
use mathlib.Core.Bool.{Bool, true, false, cond}
use mathlib.Core.List.{List, [], ◌∷◌, map}
use lib.ListN.{length, get_or, length-map}
use Rattle.ids.specs.Pool.{cell_of}
use Rattle.ids.specs.First.{is_at, or_at}
use Rattle.ids.proofs.ByteOrder.{clash}
use Rattle.stop_rows.specs.Rows.{is_positioned}
use Rattle.stop_ids.proofs.Facts.{stop_holds}
use Rattle.calls.specs.Calls.{update_stop, call_stop, is_call, stop_of_call, call_rows, call_stops}
use Rattle.update_rows.specs.Updates.{is_timed}
use Rattle.calls.specs.declared.stop.Reported.{Reported}
use Rattle.row_lists.proofs.Rows.{passing_few, rows_pass, rows_ascend}

-- element k of a list that f is applied to
at_map : (f : ℕ → ℕ) (xs : List ℕ) (k : ℕ) → k < length xs → get_or (map f xs) k 0 ≡ f (get_or xs k 0)
at_map f [] k l = absurd (omega arith)
at_map f (x ∷ xs) zero l = refl
at_map f (x ∷ xs) (suc k) l = at_map f xs k (omega arith)

module _ (bytes words : List ℕ) (v : Reported) where
  pub calls_few : length (call_rows bytes words v) ≤ v.updates.sequence.n
  unfolding call_rows
  calls_few = passing_few (is_call bytes words v) v.updates.sequence.n

  pub stops_count : length (call_stops bytes words v) ≡ length (call_rows bytes words v)
  unfolding call_stops
  stops_count = length-map (call_rows bytes words v) (stop_of_call bytes words v)

  -- row i of the calls is one of the updates, and a call
  pub call_row : (i : ℕ) → i < length (call_rows bytes words v) →
      (get_or (call_rows bytes words v) i 0 < v.updates.sequence.n) × (is_call bytes words v (get_or (call_rows bytes words v) i 0) ≡ true)
  unfolding call_rows
  call_row i l = let h = rows_pass (is_call bytes words v) v.updates.sequence.n i l in (h.below, h.passes)

  pub calls_ascend : (i j : ℕ) → i < j → j < length (call_rows bytes words v) → get_or (call_rows bytes words v) i 0 < get_or (call_rows bytes words v) j 0
  unfolding call_rows
  calls_ascend = rows_ascend (is_call bytes words v) v.updates.sequence.n

  -- its stop is the one found
  found : (f : Option ℕ) → is_at f ≡ true → f ≡ Some (or_at 0 f)
  found (Some k) e = refl
  found None e = clash (cc)

  pub call_found : (i : ℕ) → i < length (call_stops bytes words v) → call_stop bytes words v (get_or (call_rows bytes words v) i 0) ≡ Some (get_or (call_stops bytes words v) i 0)
  unfolding call_stops
  call_found i l =
      let m : i < length (call_rows bytes words v) = omega (arith, length-map (call_rows bytes words v) (stop_of_call bytes words v)) in
      found (call_stop bytes words v (get_or (call_rows bytes words v) i 0)) (call_row i m).1 ∙ ap Some (sym (at_map (stop_of_call bytes words v) (call_rows bytes words v) i m))

  -- a call has a time
  timed : (b : Bool) (f : Option ℕ) (s : ℕ) → cond b f None ≡ Some s → (b ≡ true) × (f ≡ Some s)
  timed true f s e = (refl, e)
  timed false f s e = clash (cc)

  pub call_timed : (k s : ℕ) → call_stop bytes words v k ≡ Some s → (is_timed bytes v.updates k ≡ true) × (update_stop bytes words v k ≡ Some s)
  unfolding call_stop
  call_timed k s e = timed (is_timed bytes v.updates k) (update_stop bytes words v k) s e

  -- `of-names`, `of-rows`: what is so of each stop that the stop ids or a trip's rows name
  module _ (Q : ℕ → Type 0)
      (of_names : (k : ℕ) → k < v.lookup.stopkeys.id.starts.n → Q (cell_of words v.lookup.stopkeys.row k))
      (of_rows : (j k : ℕ) → j < v.lookup.tripkeys.id.starts.n → k < cell_of words v.lookup.trips.count (cell_of words v.lookup.tripkeys.row j) →
      Q (cell_of words v.lookup.times.stop (cell_of words v.lookup.trips.first (cell_of words v.lookup.tripkeys.row j) + k))) where
    pub update_holds : (k s : ℕ) → update_stop bytes words v k ≡ Some s → (is_positioned bytes v.lookup.stops s ≡ true) × Q s
    unfolding update_stop
    update_holds k s e = stop_holds bytes words v.lookup Q of_names of_rows _ _ _ _ _ s e

    pub call_holds : (i : ℕ) → i < length (call_stops bytes words v) → (is_positioned bytes v.lookup.stops (get_or (call_stops bytes words v) i 0) ≡ true) × Q (get_or (call_stops bytes words v) i 0)
    call_holds i l = update_holds _ _ (call_timed _ _ (call_found i l)).1

  -- Every number of the words is below 2^32, and so is a stop.
  pub stop_fits : ((i : ℕ) → get_or words i 0 < 4294967296) → (k s : ℕ) → call_stop bytes words v k ≡ Some s → s < 4294967296
  stop_fits h k s e = (update_holds (λ (n : ℕ). n < 4294967296) (λ i l. h _) (λ i j l m. h _) k s (call_timed k s e).1).1
