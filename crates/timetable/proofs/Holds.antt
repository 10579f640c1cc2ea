-- What matching may take for granted where nothing is refused. Assumes nothing.
use Prim.Native.Nat.{ℕ, suc, ◌+◌, ◌<◌}
use mathlib.Core.Path.{◌≡◌, refl}
use mathlib.Core.Bool.{Bool, true, false, not, cond}
use mathlib.Core.List.{List}
use native.Mathlib.Omega.{arith}
use lib.Dec.{T, eqb, ltb, leb→le}
use lib.IntN.{ℤ, pos, negsuc, ◌+ℤ◌}
use lib.ListN.{get_or, length}
use lib.Signed.{le_z}
use Rattle.ids.specs.declared.pool.Span.{Span}
use Rattle.ids.proofs.ByteOrder.{clash}
use Rattle.columns.specs.Rows.{bit_of, counts}
use Rattle.tables.specs.Pools.{Pools, part_of}
use Rattle.tables.specs.Bounds.{chart_bounds}
use Rattle.verdicts.specs.Refuse.{refusal_of}
use Rattle.tables.specs.Marks.{always, where_set}
use Rattle.tables.specs.declared.lent.Journey.{Journey}
use Rattle.tables.specs.declared.lent.Tables.{Tables}
use Rattle.verdicts.proofs.Facts.{Sized, Counts, all_count, part_at}
use Rattle.lookup_rules.proofs.Parts.{row_ids_good, alias_ids_good, line_tokens_short, lines_ascend}
use Rattle.asked_rules.proofs.Parts.{journey_departure, journey_departs, journey_offset, journey_departure_between, journey_offset_between}
use Rattle.checks.specs.Operations.{matching_causes}
use Rattle.checks.proofs.Operations.{Calendar, Lookup, Matching, matching_holds}
use Rattle.row_lookup.proofs.Ascends.{lines_in_order}
use Rattle.matching.specs.Matching.{Ready}
use Rattle.moments.specs.Moments.{InReach}
use Rattle.asked_journey.specs.Journeys.{time_of, departs_of, local_of}
use Rattle.service_days.proofs.Holds.{calendared}
use Rattle.lent_plans.specs.Plans.{plan_of}
use Rattle.timetable.specs.Timetable.{named_of}

-- a moment of document 01 in the local time of an offset
pub in_reach : (x y : ℤ) → T (le_z (pos 0) x) → T (le_z x (pos 4102444799)) → T (le_z (negsuc 50399) y) → T (le_z y (pos 50400)) → InReach (x +ℤ y)
in_reach (pos n) (pos m) a b c d = omega (arith, leb→le n 4102444799 b, leb→le m 50400 d)
in_reach (pos n) (negsuc m) a b c d = go (ltb n (suc m)) refl where
  go : (s : Bool) → ltb n (suc m) ≡ s → InReach (pos n +ℤ negsuc m)
  go true e = rw e (omega (arith, leb→le m 50399 c))
  go false e = rw e (omega (arith, leb→le n 4102444799 b))
in_reach (negsuc n) y a b c d = absurd a

-- the first row of a column of one
pub first_at : {A : Type 0} (xs : List A) {s : Span} → Sized (length xs) s 1 → (d : A) → get_or (part_of xs s) 0 d ≡ get_or xs s.at d
first_at xs {s} z d = let e : s.at + 0 ≡ s.at = omega arith in rw e at (part_at xs z d 0 (omega arith))

-- a row whose flag is set counts
pub flag_counts : (p : Pools) {s : Span} {n : ℕ} → Sized (length p.bytes) s n → (k : ℕ) → k < n → not (eqb (bit_of p.bytes s k) 0) ≡ true → Counts p (where_set s) k
unfolding bit_of counts
flag_counts p {s} z k l f = rw (part_at p.bytes z 0 k l) (go (eqb (get_or p.bytes (s.at + k) 0) 0) f) where
  go : (b : Bool) → not (eqb (cond b 0 1) 0) ≡ true → not b ≡ true
  go true g = clash (cc)
  go false g = refl

module _ (p : Pools) (t : Tables) where
  -- what a trip is found in: ids and aliases that ascend, lines and calendars in order
  pub found_ready : Lookup p chart_bounds t → Calendar p chart_bounds t → Ready p.bytes p.words (named_of t) (plan_of t)
  found_ready l c =
      record {
        known = record {
          trip_ids = row_ids_good p chart_bounds _ _ _ l.trip_ids (omega arith);
          alias_ids = alias_ids_good p chart_bounds _ l.aliases (omega arith);
        };
        planned = record {
          lines = lines_in_order p.bytes p.words _ _ _ (lines_ascend p chart_bounds _ _ l.lines);
          calendars = calendared p t c;
        };
        short = record { short = line_tokens_short p chart_bounds _ _ l.lines (omega arith) };
      }

  module _ (j : Journey) (e : refusal_of p (matching_causes chart_bounds t j) ≡ 0) where
    held : Matching p chart_bounds t j
    held = matching_holds p chart_bounds t j e

    pub ready : Ready p.bytes p.words (named_of t) (plan_of t)
    ready = found_ready held.lookup held.calendar

    -- where there is a first departure, it counts
    departing : departs_of p.bytes j ≡ true → Counts p (where_set j.departs) 0
    unfolding departs_of
    departing f = flag_counts p (journey_departs p chart_bounds j held.asked) 0 (omega arith) f

    -- the first departure, where there is one, is a moment of document 01
    pub local_in_reach : InReach (local_of p.bytes p.times j)
    unfolding local_of
    local_in_reach = go (departs_of p.bytes j) refl where
      go : (s : Bool) → departs_of p.bytes j ≡ s → InReach (cond s (time_of p.times j.departure +ℤ time_of p.times j.offset) (pos 0))
      go false f = omega arith
      go true f =
          let a = journey_departure_between p chart_bounds j held.asked 0 (omega arith) (departing f) in
          let b = journey_offset_between p chart_bounds j held.asked 0 (omega arith) (all_count p always refl 0) in
          let x = first_at p.times (journey_departure p chart_bounds j held.asked) (pos 0) in
          let y = first_at p.times (journey_offset p chart_bounds j held.asked) (pos 0) in
          in_reach (time_of p.times j.departure) (time_of p.times j.offset) (rw x at a.0.le) (rw x at a.1.le) (rw y at b.0.le) (rw y at b.1.le)
