-- Which services run on a day, as the GTFS Schedule reference has it. A day is its date's ordinal.
use Rattle.std.specs.Prelude.{ℕ, Bool, false, not, ◌&&◌, ◌||◌, List, Option, Some, None}
use Rattle.ids.specs.First.{first, is_at}
use Rattle.ids.specs.Pool.{id_of}
use Rattle.ids.specs.Rows.{row_of, Ascending}
use Rattle.tables.specs.declared.lent.Calendars.{Calendars}
use Rattle.tables.specs.declared.lent.Exceptions.{Exceptions}
use Rattle.tables.specs.declared.lent.Ranges.{Ranges}
use Rattle.service_ranges.specs.Range.{in_range}
use Rattle.row_stands.specs.Stands.{stand_of}
use Rattle.row_lookup.specs.Rows.{row_is, Ascend}
use Rattle.row_stands.specs.declared.rows.Rows.{Rows}
use Rattle.row_stands.specs.declared.rows.Rows.TheVariants.{Ranges as ByNames, Exceptions as ByDay}

abbrev pub range_rows : Ranges → Rows
range_rows g = ByNames g.feed g.service

abbrev pub exception_rows : Exceptions → Rows
exception_rows e = ByDay e.feed e.service e.date e.removed

module _ (bytes words : List ℕ) where
  -- the feed has a calendar
  unfoldable pub named : Calendars → List ℕ → Bool
  named c feed = is_at (row_of (id_of bytes words c.feed) c.feed.starts.n feed)

  -- the service has an exception on the day that adds it, where the flag is 0, or removes it, where it is 1
  unfoldable pub excepted : Exceptions → List ℕ → List ℕ → ℕ → ℕ → Bool
  excepted e feed service day flag = is_at (first (row_is (stand_of bytes words (exception_rows e) feed service day flag)) e.date.n)

  -- the row found, if any, has the day
  abbrev pub range_has : Ranges → ℕ → Option ℕ → Bool
  range_has g day (Some k) = in_range bytes words g day k
  range_has g day None = false

  -- the service's range has the day
  unfoldable pub ranged : Ranges → List ℕ → List ℕ → ℕ → Bool
  ranged g feed service day = range_has g day (first (row_is (stand_of bytes words (range_rows g) feed service 0 0)) g.first.n)

  -- the service runs on the day: a feed without a calendar always runs; removed beats added beats the range
  unfoldable pub runs_of : Calendars → Ranges → Exceptions → List ℕ → List ℕ → ℕ → Bool
  runs_of c g e feed service day =
      not (named c feed) || (not (excepted e feed service day 1) && (excepted e feed service day 0 || ranged g feed service day))

  -- the three tables ascend
  pub record Calendared (c : Calendars) (g : Ranges) (e : Exceptions) : Type 0 where
    pub calendars : Ascending (id_of bytes words c.feed) c.feed.starts.n
    pub ranges : Ascend bytes words (range_rows g) g.first.n
    pub exceptions : Ascend bytes words (exception_rows e) e.date.n
