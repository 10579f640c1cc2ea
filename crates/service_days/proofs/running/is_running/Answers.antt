use Rattle.service_days.proofs.Holds.{ordinal_word}
use Rattle.service_days.specs.Services.{service_runs}
use Rattle.service_days.proofs.running.is_running.Goals as goal

pub overflow_cast-day : goal.overflow_cast-day
overflow_cast-day c = rw c.ordinal_of-day.ensures (record { fits = ordinal_word _ c.cell.type_inv })

pub returns : goal.returns
unfolding service_runs
returns c = rw (← c.cell.ensures, ← c.ordinal_of-day.ensures, ← c.id.ensures, ← c.id-2.ensures) c.runs.ensures
