-- The causes of each part that trips and stops are looked up by: a refusal's number, and the fault that it is given for. A table has as many rows as the column that `n` is taken of.
use Rattle.std.specs.Prelude.{ℕ, false, List, [], ◌∷◌, ◌++◌}
use Rattle.column_order.specs.declared.order.Key.TheVariants.{Id, IdWord}
use Rattle.verdicts.specs.Refuse.{Cause, cause, id_causes}
use Rattle.tables.specs.Marks.{always}
use Rattle.tables.specs.declared.bounds.Bounds.{Bounds}
use Rattle.tables.specs.declared.mark.Pool.TheVariants.{Words}
use Rattle.faults.specs.declared.fault.Test.TheVariants.{Column, Over, Reaches, Unsorted}
use Rattle.tables.specs.declared.lent.Aliases.{Aliases}
use Rattle.tables.specs.declared.lent.IdRows.{IdRows}
use Rattle.tables.specs.declared.lent.Lines.{Lines}

-- ids that ascend, each with the row of one of `records`; no more than `most`
abbrev pub id_rows_causes : Bounds → IdRows → ℕ → ℕ → List Cause
id_rows_causes b i most records =
    id_causes i.id always false i.row.n b.id
    ++ (cause 1 (Column Words i.row i.row.n)
    ∷ cause 2 (Over i.row.n most)
    ∷ cause 4 (Unsorted (Id i.id) i.row.n)
    ∷ cause 5 (Reaches i.row always records) ∷ [])

-- the aliases
abbrev pub aliases_causes : Bounds → Aliases → List Cause
aliases_causes b a =
    id_causes a.id always false a.id.starts.n b.id
    ++ (id_causes a.trip always false a.id.starts.n b.id
    ++ (cause 2 (Over a.id.starts.n b.others)
    ∷ cause 4 (Unsorted (Id a.id) a.id.starts.n) ∷ []))

-- the line entries, of so many trips
abbrev pub lines_causes : Bounds → Lines → ℕ → List Cause
lines_causes b l trips =
    id_causes l.token always false l.trip.n b.id
    ++ (cause 1 (Column Words l.trip l.trip.n)
    ∷ cause 2 (Over l.trip.n b.others)
    ∷ cause 4 (Unsorted (IdWord l.token l.trip) l.trip.n)
    ∷ cause 5 (Reaches l.trip always trips) ∷ [])
