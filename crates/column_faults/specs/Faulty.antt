-- The faults of one column that are about its rows or its numbers.
use Rattle.std.specs.Prelude.{ℕ, ◌+◌, Bool, not, ◌||◌, List, ltb, eqb, ℤ, pos, length}
use Rattle.ids.specs.declared.pool.Span.{Span}
use Rattle.columns.specs.Rows.{some, among}
use Rattle.columns.specs.Number.{reaches_at, outside_at}
use Rattle.tables.specs.Pools.{part_of}
use Rattle.tables.specs.declared.mark.Mark.{Mark}

-- a column that is not n rows of a pool of so many
abbrev pub ill_sized : ℕ → Span → ℕ → Bool
ill_sized len s n = ltb len (s.at + s.n) || not (eqb s.n n)

-- a number, of those that count, is at least so large
abbrev pub too_large : List ℕ → List ℕ → Span → Mark → ℕ → Bool
too_large bytes words s m n = some (among m.all (part_of bytes m.flags) (reaches_at (part_of words s) n)) (length (part_of words s))

-- a moment, of those that count, is before 1970 or after 2099
abbrev pub out_of_time : List ℕ → List ℤ → Span → Mark → Bool
out_of_time bytes times s m = some (among m.all (part_of bytes m.flags) (outside_at (part_of times s) (pos 0) (pos 4102444799))) (length (part_of times s))
