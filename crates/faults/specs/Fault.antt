-- The faults that columns may have.
use Rattle.std.specs.Prelude.{ℕ, ◌-◌, min, Bool, true, not, ◌||◌, List, [], ltb, pos, negsuc, Float, length, get_or}
use Rattle.std.specs.Float.{nan}
use Rattle.std.specs.Float.Ieee.{is_nan}
use Rattle.days.specs.Days.{is_date}
use Rattle.columns.specs.Rows.{some, among}
use Rattle.columns.specs.Number.{ends_past_at, outside_at}
use Rattle.column_floats.specs.Real.{off_globe_at, not_finite_at}
use Rattle.column_faults.specs.Faulty.{ill_sized, too_large, out_of_time}
use Rattle.column_ids.specs.Text.{bad_id_at}
use Rattle.column_order.specs.Order.{out_of_order_at}
use Rattle.tables.specs.Pools.{Pools, part_of, flags_of, pool_length}
use Rattle.faults.specs.declared.fault.Test.{Test}
use Rattle.faults.specs.declared.fault.Test.TheVariants.{Column, Ids, Over, Reaches, OffGlobe, Unsorted, IdsPast, EndsPast, Moment, Offset, BadIds, NotFinite, NoDate, NotANumber}

-- number k is no date
unfoldable pub no_date_at : List ℕ → ℕ → Bool
no_date_at s k = not (is_date (get_or s k 0))

-- number k is NaN
unfoldable pub nan_at : List Float → ℕ → Bool
nan_at s k = is_nan (get_or s k nan)

-- the fault is there
unfoldable pub fails_of : Pools → Test → Bool
fails_of p (Column pool s n) = ill_sized (pool_length p pool) s n
fails_of p (Ids c n) = ill_sized (length p.words) c.starts n || ill_sized (length p.words) c.lens n
fails_of p (Over n most) = ltb most n
fails_of p (Reaches s m n) = too_large p.bytes p.words s m n
fails_of p (OffGlobe lat lon m) =
    some (among m.all (flags_of p m) (off_globe_at (part_of p.reals lat) (part_of p.reals lon))) (min (length (part_of p.reals lat)) (length (part_of p.reals lon)))
fails_of p (Unsorted key n) = some (out_of_order_at p.bytes p.words key) (n - 1)
fails_of p (IdsPast c m) =
    some (among m.all (flags_of p m) (ends_past_at (part_of p.words c.starts) (part_of p.words c.lens) (length p.bytes)))
    (min (length (part_of p.words c.starts)) (length (part_of p.words c.lens)))
fails_of p (EndsPast first count n) =
    some (among true [] (ends_past_at (part_of p.words first) (part_of p.words count) n)) (min (length (part_of p.words first)) (length (part_of p.words count)))
fails_of p (Moment s m) = out_of_time p.bytes p.times s m
fails_of p (Offset s) = some (among true [] (outside_at (part_of p.times s) (negsuc 50399) (pos 50400))) (length (part_of p.times s))
fails_of p (BadIds c m empty) =
    some (among m.all (flags_of p m) (bad_id_at p.bytes (part_of p.words c.starts) (part_of p.words c.lens) empty))
    (min (length (part_of p.words c.starts)) (length (part_of p.words c.lens)))
fails_of p (NotFinite s m) = some (among m.all (flags_of p m) (not_finite_at (part_of p.dists s))) (length (part_of p.dists s))
fails_of p (NoDate s) = some (no_date_at (part_of p.words s)) (length (part_of p.words s))
fails_of p (NotANumber s) = some (nan_at (part_of p.reals s)) (length (part_of p.reals s))
