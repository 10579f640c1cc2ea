-- The faults of a trip's records. Definitions only.
use Rattle.std.specs.Prelude.{ℕ, cond, leb}
use Rattle.column_floats.specs.Real.{is_finite}
use Rattle.stop_record.specs.declared.StopTime.{StopTime}
use Rattle.record_faults.specs.declared.Faults.{Faults}

-- 1 for a stop that is not among so many
unfoldable pub outside_of : ℕ → ℕ → ℕ → ℕ
outside_of before stop stops = cond (leb stops stop) 1 before

-- 1 for a distance that is there and not finite
unfoldable pub infinite_of : ℕ → StopTime → ℕ
infinite_of before s = cond s.measured (cond (is_finite s.dist) before 1) before

-- with one more record
abbrev pub step_of : ℕ → Faults → StopTime → Faults
step_of stops c s = record { outside = outside_of c.outside s.stop stops; infinite = infinite_of c.infinite s }

-- before the first
abbrev pub start : Faults
start = record { outside = 0; infinite = 0 }
