-- Which rows of a column have a value.
use Rattle.std.specs.Prelude.{true, false}
use Rattle.ids.specs.declared.pool.Span.{Span}
use Rattle.tables.specs.declared.mark.Mark.{Mark}

-- all
abbrev pub always : Mark
always = record { all = true; flags = record { at = 0; n = 0 } }

-- those whose flag is set
abbrev pub where_set : Span → Mark
where_set s = record { all = false; flags = s }
