-- Interpolation alone as an operation: the first refusal that applies, or the position asked for.
use Rattle.std.specs.Prelude.{Option}
use Rattle.stretches.specs.declared.drawing.Drawn.{Drawn}
use Rattle.refusals.specs.Answer.{Answer}
use Rattle.answers.specs.Answers.{unless_refused}
use Rattle.tables.specs.Pools.{Pools}
use Rattle.tables.specs.Bounds.{chart_bounds}
use Rattle.verdicts.specs.Refuse.{refusal_of}
use Rattle.tables.specs.declared.lent.Along.{Along}
use Rattle.geometry_checks.specs.Operations.{interpolation_causes}
use Rattle.line_questions.specs.Asked.{along_lent}
use Rattle.line_questions.specs.declared.asked.Question.{Question}

unfoldable pub interpolation_of : Pools → Question → Along → Answer (Option Drawn)
interpolation_of p question a = unless_refused (refusal_of p (interpolation_causes chart_bounds a)) (along_lent p.reals p.dists question a)
