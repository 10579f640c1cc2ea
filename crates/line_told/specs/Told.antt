-- Answers about a line and about stops on it as numbers, for C. Definitions only.
use Rattle.unit_scales.specs.declared.metres.Affine.{Affine}
use Rattle.stretches.specs.declared.drawing.Drawn.{Drawn}
use Rattle.std.specs.Prelude.{ℕ, Float, Option, Some, None}
use Rattle.floats.specs.Number.{nought}
use Rattle.refusals.specs.Answer.{Answer, refused, given}
use Rattle.line_told.specs.declared.metres.MetresTold.{MetresTold}
use Rattle.line_told.specs.declared.position.PositionTold.{PositionTold}
use Rattle.line_told.specs.declared.scale.ScaleTold.{ScaleTold}
use Rattle.line_told.specs.declared.step.StepTold.{StepTold}
use Rattle.line_told.specs.declared.trip.RowsTold.{RowsTold}
use Rattle.projection.specs.declared.cursor.Step.{Step}

abbrev pub scale_told : Answer (Option Float) → ScaleTold
scale_told (given (Some x)) = record { scale = x; answered = 1; refusal = 0 }
scale_told (given None) = record { scale = nought; answered = 0; refusal = 0 }
scale_told (refused n) = record { scale = nought; answered = 0; refusal = n }

abbrev pub metres_told : Answer (Option Affine) → MetresTold
metres_told (given (Some f)) = record { shift = f.a; scale = f.b; answered = 1; refusal = 0 }
metres_told (given None) = record { shift = nought; scale = nought; answered = 0; refusal = 0 }
metres_told (refused n) = record { shift = nought; scale = nought; answered = 0; refusal = n }

abbrev pub no_position : ℕ → PositionTold
no_position n = record { lat = nought; lon = nought; bearing = nought; answered = 0; refusal = n }

abbrev pub position_told : Answer (Option Drawn) → PositionTold
position_told (given (Some d)) = record { lat = d.lat; lon = d.lon; bearing = d.bearing; answered = 1; refusal = 0 }
position_told (given None) = no_position 0
position_told (refused n) = no_position n

abbrev pub step_told : Answer Step → StepTold
step_told (given s) = record { cursor = s.cursor.at; vertex = s.vertex; refusal = 0 }
step_told (refused n) = record { cursor = 0; vertex = 0; refusal = n }

abbrev pub rows_told : Answer ℕ → RowsTold
rows_told (given n) = record { rows = n; refusal = 0 }
rows_told (refused n) = record { rows = 0; refusal = n }
