-- Document 01's cases, by computing the definitions.
use mathlib.Core.Path.{refl}
use lib.Ieee.{of_int, sub, div, lt, le}
use Rattle.ids.specs.Bytes.{upper_of}
use Rattle.ids.specs.Cmp.{equal}
use Rattle.ids.specs.First.{first, last}
use Rattle.texts.specs.Texts.{suffix_of, trimmed_times}
use Rattle.text_runs.specs.Runs.{first_byte, last_byte, kept_of, run_of}
use Rattle.text_folds.specs.Folds.{first_place, prefix_of}
use Rattle.days.specs.Days.{is_date, ordinal, day_of}
use Rattle.day_counts.specs.Weekdays.{weekday_of}
use Rattle.gregorian.specs.Gregorian.{leap, year_days, month_days, days_before_month, days_before_year}
use Rattle.days.specs.Read.{read_date_of}
use Rattle.columns.specs.Rows.{some}
use Rattle.ieee.specs.Number.{abs_of}
use Rattle.unit_scales.specs.Scale.{decimal, first_near, near_unit}
use Rattle.refs.specs.Refs.{journey_id_of, after_colons, after_parts, after_kind, is_kind, without_loc_part}
use Rattle.stop_digits.specs.Stops.{stop_digits_of, digits_first, digits_last, marked_digits}
use Rattle.line_fits.specs.Lines.{best_of}
use Rattle.line_crowds.specs.Crowds.{beside, is_crowded}
use Rattle.soundings.specs.Soundings.{Soundings}

pub soundings : Soundings
unfolding leap year_days month_days days_before_month days_before_year is_date ordinal day_of weekday_of read_date_of of_int sub div lt le abs_of decimal near_unit first_near journey_id_of after_colons after_parts after_kind is_kind without_loc_part stop_digits_of digits_first digits_last marked_digits first_byte first_place last_byte kept_of prefix_of run_of suffix_of trimmed_times first last equal upper_of best_of beside is_crowded some
soundings = (refl, refl, refl, refl, refl, refl, refl, refl, refl, refl, refl, refl, refl, refl, refl, refl, refl, refl, refl)
