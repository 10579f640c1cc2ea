-- Records that are filled, and the columns of records. Definitions only.
use Rattle.std.specs.Prelude.{ℕ, Bool, true, false, List, get_or, Float}
use Rattle.std.specs.Float.{nan}
use Rattle.stop_record.specs.Record.{none, filled_of}
use Rattle.stop_record.specs.declared.StopTime.{StopTime}

-- record j, after the answers ds and ks
abbrev pub fill_row : List Float → List ℕ → ℕ → StopTime → StopTime
fill_row ds ks j s = filled_of s (get_or ds j nan) (get_or ks j 0)

abbrev pub flag_of : Bool → ℕ
flag_of true = 1
flag_of false = 0

-- row j of the columns that the records rs have
abbrev pub stop_col : List StopTime → ℕ → ℕ → ℕ
stop_col rs j k = (get_or rs j none).stop

abbrev pub dist_col : List StopTime → ℕ → Float → Float
dist_col rs j d = (get_or rs j none).dist

abbrev pub known_col : List StopTime → ℕ → ℕ → ℕ
known_col rs j k = flag_of (get_or rs j none).measured
