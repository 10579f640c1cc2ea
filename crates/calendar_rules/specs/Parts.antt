-- The causes of each calendar table: a refusal's number, and the fault that it is given for. A table has as many rows as the column that `n` is taken of.
use Rattle.std.specs.Prelude.{false, List, [], ◌∷◌, ◌++◌}
use Rattle.column_order.specs.declared.order.Key.TheVariants.{Id, Dated}
use Rattle.column_order.specs.declared.order.Key.TheVariants.{Ids as KeyIds}
use Rattle.verdicts.specs.Refuse.{Cause, cause, id_causes}
use Rattle.tables.specs.Marks.{always}
use Rattle.tables.specs.declared.bounds.Bounds.{Bounds}
use Rattle.tables.specs.declared.mark.Pool.TheVariants.{Bytes, Words}
use Rattle.faults.specs.declared.fault.Test.TheVariants.{Column, Over, Unsorted, NoDate}
use Rattle.tables.specs.declared.lent.Calendars.{Calendars}
use Rattle.tables.specs.declared.lent.Exceptions.{Exceptions}
use Rattle.tables.specs.declared.lent.Ranges.{Ranges}

-- the feeds that have a calendar
abbrev pub calendars_causes : Bounds → Calendars → List Cause
calendars_causes b c =
    id_causes c.feed always false c.feed.starts.n b.id
    ++ (cause 2 (Over c.feed.starts.n b.others)
    ∷ cause 4 (Unsorted (Id c.feed) c.feed.starts.n) ∷ [])

-- the ranges of services
abbrev pub ranges_causes : Bounds → Ranges → List Cause
ranges_causes b g =
    id_causes g.feed always false g.first.n b.id
    ++ (id_causes g.service always false g.first.n b.id
    ++ (cause 1 (Column Words g.first g.first.n)
    ∷ cause 1 (Column Words g.last g.first.n)
    ∷ cause 1 (Column Bytes g.weekdays g.first.n)
    ∷ cause 2 (Over g.first.n b.others)
    ∷ cause 4 (Unsorted (KeyIds g.feed g.service) g.first.n)
    ∷ cause 10 (NoDate g.first)
    ∷ cause 10 (NoDate g.last) ∷ []))

-- the exceptions of services
abbrev pub exceptions_causes : Bounds → Exceptions → List Cause
exceptions_causes b e =
    id_causes e.feed always false e.date.n b.id
    ++ (id_causes e.service always false e.date.n b.id
    ++ (cause 1 (Column Words e.date e.date.n)
    ∷ cause 1 (Column Bytes e.removed e.date.n)
    ∷ cause 2 (Over e.date.n b.others)
    ∷ cause 4 (Unsorted (Dated e.feed e.service e.date e.removed) e.date.n)
    ∷ cause 10 (NoDate e.date) ∷ []))
