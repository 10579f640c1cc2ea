-- The first refusal that applies to backfill of records, or 0. Definitions only.
use Rattle.std.specs.Prelude.{ℕ, cond, ◌||◌, List, [], ◌∷◌, eqb, ltb}
use Rattle.verdicts.specs.Refuse.{Cause, joined}
use Rattle.tables.specs.declared.bounds.Bounds.{Bounds}
use Rattle.stop_rules.specs.Parts.{stops_causes}
use Rattle.shape_rules.specs.Parts.{line_causes}
use Rattle.record_faults.specs.declared.Faults.{Faults}
use Rattle.record_refusals.specs.declared.LentRecords.{LentRecords}

-- the causes of what is lent beside the records: the stops, and the points of the trip's shape
unfoldable pub lent_causes : Bounds → LentRecords → List Cause
lent_causes b l = joined (stops_causes b l.stops ∷ line_causes b l.line ∷ [])

-- the earlier of two refusals, of which 0 is none
unfoldable pub earlier : ℕ → ℕ → ℕ
earlier a b = cond (eqb a 0) b (cond (eqb b 0) a (cond (ltb a b) a b))

-- a refusal's number where a flag is not 0
unfoldable pub numbered : ℕ → ℕ → ℕ
numbered flag number = cond (eqb flag 0) 0 number

-- 2 for more records than a table of stop times may have rows
unfoldable pub over_of : ℕ → ℕ
over_of n = cond (ltb 1000000 n) 2 0

-- 9 where one of the columns has fewer rows than there are records
unfoldable pub short_of : ℕ → ℕ → ℕ → ℕ → ℕ
short_of n a d k = cond (ltb a n || (ltb d n || ltb k n)) 9 0

-- the first of all: 5 for a stop outside the table, 8 for a distance that is not finite
unfoldable pub verdict_of : Faults → ℕ → ℕ → ℕ → ℕ → ℕ → ℕ
verdict_of c lent n a d k =
    earlier (earlier (earlier (earlier lent (over_of n)) (numbered c.outside 5)) (numbered c.infinite 8)) (short_of n a d k)
