-- Interpolation as it is asked for and told in C: by a question's number. Definitions only.
use Rattle.std.specs.Prelude.{ℕ, cond, ◌||◌, eqb, ltb}
use Rattle.tables.specs.Pools.{Pools}
use Rattle.tables.specs.declared.lent.Along.{Along}
use Rattle.interpolate.specs.Answers.{interpolation_of}
use Rattle.line_questions.specs.declared.asked.Question.{Question}
use Rattle.line_questions.specs.declared.asked.Question.TheVariants.{ByDistance, ByFeedDistance, AlongVertices, Polyline}
use Rattle.line_told.specs.Told.{no_position, position_told}
use Rattle.line_told.specs.declared.position.PositionTold.{PositionTold}

-- a question by its number
abbrev pub question_of : ℕ → Question
question_of n = cond (eqb n 1) ByDistance (cond (eqb n 2) ByFeedDistance (cond (eqb n 3) AlongVertices Polyline))

-- 1 for a number that is no question's; else what interpolation answers
abbrev pub interpolation_told : Pools → ℕ → Along → PositionTold
interpolation_told p n a = cond (eqb n 0 || ltb 4 n) (no_position 1) (position_told (interpolation_of p (question_of n) a))
