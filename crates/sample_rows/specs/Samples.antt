-- The rows of the stop times that are samples. Definitions only.
use Rattle.std.specs.Prelude.{ℕ, ◌+◌, Bool, ◌&&◌, List}
use Rattle.ids.specs.Pool.{cell_of}
use Rattle.courses.specs.Course.{is_flagged}
use Rattle.courses.specs.declared.course.Course.{Course}

-- row k of the stop times has a distance, and its stop a position
unfoldable pub is_sample : List ℕ → List ℕ → Course → ℕ → Bool
is_sample bytes words c k = is_flagged bytes c.times.measured k && is_flagged bytes c.stops.positioned (cell_of words c.times.stop k)

-- row k after `from` is a sample
abbrev pub sample_from : List ℕ → List ℕ → Course → ℕ → ℕ → Bool
sample_from bytes words c from k = is_sample bytes words c (from + k)
