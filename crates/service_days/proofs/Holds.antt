-- What services may take for granted where nothing is refused. Assumes nothing.
use Prim.Native.Nat.{ℕ, ◌/◌, ◌%◌, ◌^◌, ◌<◌}
use mathlib.Core.Path.{◌≡◌}
use native.Mathlib.Omega.{arith}
use Rattle.days.specs.Days.{ordinal}
use Rattle.gregorian.specs.Gregorian.{leap}
use Rattle.gregorian.proofs.Months.{months_bound}
use Rattle.gregorian.proofs.Years.{years_bound}
use Rattle.tables.specs.Pools.{Pools}
use Rattle.tables.specs.Bounds.{chart_bounds}
use Rattle.verdicts.specs.Refuse.{refusal_of}
use Rattle.tables.specs.declared.lent.Service.{Service}
use Rattle.tables.specs.declared.lent.Tables.{Tables}
use Rattle.verdicts.proofs.Facts.{part_at}
use Rattle.calendar_rules.proofs.Parts.{calendar_feeds_ascend, ranges_ascend, exceptions_ascend, exception_days, exception_dates}
use Rattle.checks.specs.Operations.{service_day_causes}
use Rattle.checks.proofs.Operations.{Calendar, service_day_holds}
use Rattle.services.specs.Runs.{Calendared}
use Rattle.row_lookup.proofs.Ascends.{ranges_ascend as by_names, exceptions_ascend as by_day}

-- an ordinal is a word, even of digits that are no date
pub ordinal_word : (n : ℕ) → n < 2 ^ 32 → ordinal n < 2 ^ 32
unfolding ordinal
ordinal_word n h = omega (arith, years_bound (n / 10000), months_bound (leap (n / 10000)) (n / 100 % 100))

module _ (p : Pools) (t : Tables) where
  pub calendared : Calendar p chart_bounds t → Calendared p.bytes p.words t.calendars t.ranges t.exceptions
  calendared h = record {
    calendars = calendar_feeds_ascend p chart_bounds _ h.calendars;
    ranges = by_names p.bytes p.words _ _ _ (ranges_ascend p chart_bounds _ h.ranges);
    exceptions =
        by_day p.bytes p.words _ _ _ _ _ (exceptions_ascend p chart_bounds _ h.exceptions)
        (λ k l. rw (part_at p.words (exception_days p chart_bounds _ h.exceptions) 0 k l) at (exception_dates p chart_bounds _ h.exceptions k l));
  }

  pub service_ready : (s : Service) → refusal_of p (service_day_causes chart_bounds t s) ≡ 0 → Calendared p.bytes p.words t.calendars t.ranges t.exceptions
  service_ready s e = calendared (service_day_holds p chart_bounds t s e).calendar
