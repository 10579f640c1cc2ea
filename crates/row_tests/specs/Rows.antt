-- Tests of a row of the stop times, and the first and the last row of a trip that passes one. Definitions only.
use Rattle.std.specs.Prelude.{ℕ, ◌+◌, Bool, ◌&&◌, ◌||◌, List, eqb, leb, ltb, length, Option}
use Rattle.ids.specs.Cmp.{equal}
use Rattle.ids.specs.First.{first, last}
use Rattle.ids.specs.Pool.{cell_of, id_of}
use Rattle.texts.specs.Texts.{holds}
use Rattle.tables.specs.declared.lent.StopTimes.{StopTimes}
use Rattle.tables.specs.declared.lent.Stops.{Stops}
use Rattle.courses.specs.Course.{is_flagged, row_after}

-- the row's stop has a position
unfoldable pub is_placed : List ℕ → List ℕ → StopTimes → Stops → ℕ → Bool
is_placed bytes words times stops row = is_flagged bytes stops.positioned (cell_of words times.stop row)

-- the stop `at` has the stop's own id, or a raw id, not empty, that stands in that id
unfoldable pub is_named : List ℕ → List ℕ → Stops → ℕ → ℕ → Bool
is_named bytes words stops stop at =
    let target = id_of bytes words stops.own stop in
    let raw = id_of bytes words stops.raw at in
    equal (id_of bytes words stops.own at) target || (ltb 0 (length raw) && holds raw target)

-- the row is the call at the stop with the sequence: it has that stop, or that sequence, or its stop's ids say so
unfoldable pub is_target : List ℕ → List ℕ → StopTimes → Stops → ℕ → ℕ → ℕ → Bool
is_target bytes words times stops sequence stop row =
    let at = cell_of words times.stop row in
    eqb at stop || (eqb (cell_of words times.sequence row) sequence || is_named bytes words stops stop at)

-- the row is that, and its stop has a position
unfoldable pub placed_target : List ℕ → List ℕ → StopTimes → Stops → ℕ → ℕ → ℕ → Bool
placed_target bytes words times stops sequence stop row = is_placed bytes words times stops row && is_target bytes words times stops sequence stop row

-- the row has the sequence or one above it; a sequence of 0 has no such row
unfoldable pub is_from : List ℕ → StopTimes → ℕ → ℕ → Bool
is_from words times sequence row = ltb 0 sequence && leb sequence (cell_of words times.sequence row)

-- the row has the sequence
abbrev pub has_sequence : List ℕ → StopTimes → ℕ → ℕ → Bool
has_sequence words times sequence row = eqb (cell_of words times.sequence row) sequence

-- row k after `from` passes
abbrev pub after : (ℕ → Bool) → ℕ → ℕ → Bool
after p from k = p (from + k)

-- the first of n rows from `from` on that passes
abbrev pub first_row : (ℕ → Bool) → ℕ → ℕ → Option ℕ
first_row p from n = row_after from (first (after p from) n)

-- the last
abbrev pub last_row : (ℕ → Bool) → ℕ → ℕ → Option ℕ
last_row p from n = row_after from (last (after p from) n)
