-- What matching answers, in document 01's terms: the first refusal that applies, its number alone, or the value.
use Rattle.std.specs.Prelude.{Option, ℕ}
use Rattle.refusals.specs.Answer.{Answer}
use Rattle.answers.specs.Answers.{unless_refused}
use Rattle.tables.specs.Pools.{Pools}
use Rattle.tables.specs.Bounds.{chart_bounds}
use Rattle.verdicts.specs.Refuse.{refusal_of}
use Rattle.tables.specs.declared.lent.Journey.{Journey}
use Rattle.tables.specs.declared.lent.Tables.{Tables}
use Rattle.checks.specs.Operations.{matching_causes}
use Rattle.timetable.specs.Timetable.{journey_trip}

-- trip matching
unfoldable pub matched_of : Pools → Tables → Journey → Answer (Option ℕ)
matched_of p t j = unless_refused (refusal_of p (matching_causes chart_bounds t j)) (journey_trip p.bytes p.words p.times t j)
