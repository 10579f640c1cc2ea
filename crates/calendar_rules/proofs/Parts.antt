-- What is so of each calendar table where no cause of it is there. A number after `at` is a cause's place in the part's list.
-- `Rattle.verdicts.proofs.Facts` has what each kind of fact says, and `counted` for the part's columns and counts.
use Prim.Native.Nat.{ℕ}
use mathlib.Core.Bool.{false}
use lib.ListN.{drop, length}
use Rattle.ids.specs.Pool.{id_of}
use Rattle.ids.specs.Rows.{Ascending}
use Rattle.column_order.specs.declared.order.Key.TheVariants.{Dated}
use Rattle.column_order.specs.declared.order.Key.TheVariants.{Ids as KeyIds}
use Rattle.tables.specs.Pools.{Pools}
use Rattle.tables.specs.Marks.{always}
use Rattle.tables.specs.declared.bounds.Bounds.{Bounds}
use Rattle.tables.specs.declared.lent.Calendars.{Calendars}
use Rattle.tables.specs.declared.lent.Exceptions.{Exceptions}
use Rattle.tables.specs.declared.lent.Ranges.{Ranges}
use Rattle.verdicts.proofs.Passed.{Clear, clear_drop, clear_part}
use Rattle.verdicts.proofs.Facts.{Dates, dates, Ascend, ascend, by_id, IdsHold, ids_hold, Sized, counted}
use Rattle.calendar_rules.specs.Parts.{calendars_causes, ranges_causes, exceptions_causes}

module _ (p : Pools) where
  module _ (b : Bounds) (c : Calendars) (h : Clear p (calendars_causes b c)) where
    at_calendars : (k : ℕ) → Clear p (drop k (calendars_causes b c))
    at_calendars = clear_drop p (calendars_causes b c) h

    pub calendar_feeds : IdsHold p c.feed always false c.feed.starts.n b.id
    calendar_feeds = ids_hold p _ _ _ _ _ (clear_part p (calendars_causes b c) h 0 4)

    pub calendar_feeds_ascend : Ascending (id_of p.bytes p.words c.feed) c.feed.starts.n
    calendar_feeds_ascend = by_id p _ _ (at_calendars 5).0

  module _ (b : Bounds) (g : Ranges) (h : Clear p (ranges_causes b g)) where
    at_ranges : (k : ℕ) → Clear p (drop k (ranges_causes b g))
    at_ranges = clear_drop p (ranges_causes b g) h

    pub range_feeds : IdsHold p g.feed always false g.first.n b.id
    range_feeds = ids_hold p _ _ _ _ _ (clear_part p (ranges_causes b g) h 0 4)

    pub range_services : IdsHold p g.service always false g.first.n b.id
    range_services = ids_hold p _ _ _ _ _ (clear_part p (ranges_causes b g) h 4 4)

    pub ranges_ascend : Ascend p (KeyIds g.feed g.service) g.first.n
    ranges_ascend = ascend p _ _ (at_ranges 12).0

    pub range_firsts : Dates p g.first g.first.n
    range_firsts = dates p _ _ (at_ranges 8).0 (at_ranges 13).0

    pub range_lasts : Dates p g.last g.first.n
    range_lasts = dates p _ _ (at_ranges 9).0 (at_ranges 14).0

  module _ (b : Bounds) (e : Exceptions) (h : Clear p (exceptions_causes b e)) where
    at_exceptions : (k : ℕ) → Clear p (drop k (exceptions_causes b e))
    at_exceptions = clear_drop p (exceptions_causes b e) h

    pub exception_feeds : IdsHold p e.feed always false e.date.n b.id
    exception_feeds = ids_hold p _ _ _ _ _ (clear_part p (exceptions_causes b e) h 0 4)

    pub exception_services : IdsHold p e.service always false e.date.n b.id
    exception_services = ids_hold p _ _ _ _ _ (clear_part p (exceptions_causes b e) h 4 4)

    pub exceptions_ascend : Ascend p (Dated e.feed e.service e.date e.removed) e.date.n
    exceptions_ascend = ascend p _ _ (at_exceptions 11).0

    pub exception_days : Sized (length p.words) e.date e.date.n
    exception_days = (counted p (drop 8 (exceptions_causes b e)) (at_exceptions 8)).0

    pub exception_dates : Dates p e.date e.date.n
    exception_dates = dates p _ _ (at_exceptions 8).0 (at_exceptions 12).0
