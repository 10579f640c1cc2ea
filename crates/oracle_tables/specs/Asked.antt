-- What a caller in C asks of the tables. Definitions only.
use Rattle.std.specs.Prelude.{ℕ, ◌+◌, List, get_or}
use Rattle.ids.specs.declared.pool.IdColumn.{IdColumn}
use Rattle.ids.specs.declared.pool.Span.{Span}
use Rattle.courses.specs.declared.course.Course.{Course}

-- the column whose start is word i and whose count is the next
abbrev pub span_at : List ℕ → ℕ → Span
span_at words i = record { at = get_or words i 0; n = get_or words (i + 1) 0 }

abbrev unread : List ℕ → IdColumn
unread words = record { starts = span_at words 0; lens = span_at words 0 }

-- the columns that are read, two words each; any other is the first of them
abbrev pub course_of : List ℕ → Course
course_of words = record {
  trips = record { feed = unread words; service = unread words; shape = span_at words 0; shaped = span_at words 2; frequency = span_at words 0; first = span_at words 4; count = span_at words 6 };
  times = record { sequence = span_at words 0; stop = span_at words 8; arrival = span_at words 0; departure = span_at words 0; dist = span_at words 10; measured = span_at words 12 };
  stops = record { own = unread words; raw = unread words; lat = span_at words 14; lon = span_at words 16; positioned = span_at words 18 };
  shapes = record { id = unread words; first = span_at words 20; count = span_at words 22 };
  points = record { lat = span_at words 24; lon = span_at words 26 };
}
