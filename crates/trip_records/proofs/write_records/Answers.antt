-- `trip_records::write_records` meets its contract: four calls.
use native.Mathlib.Omega.{arith}
use mathlib.Core.Path.{◌≡◌, refl}
use lib.ListN.{length}
use Rattle.filled_records.specs.Records.{laid_r, laid_a, laid_d, laid_k}
use Rattle.trip_records.proofs.write_records.Goals as goal

pub returns : goal.returns
returns c = rw (c.fill.ensures, c.core.ensures.0, c.core.ensures.1, c.columns.ensures.0, c.columns.ensures.1, c.stops_of.ensures) (refl, refl, refl, refl)
