-- `projection::cursor::Cursor::pass` meets its contract.
use Rattle.std.specs.Prelude.{Option, Some}
use borrow.Author.Rules.{rules}
use mathlib.Core.Path.{◌≡◌}
use mathlib.Core.List.{List}
use Rattle.lengths.specs.declared.line.Point.{Point}
use Rattle.projection.specs.Projection.{step_of, passed_of}
use Rattle.projection.specs.declared.cursor.Cursor.{Cursor}
use Rattle.projection.specs.declared.cursor.Step.{Step}
use Rattle.projection.proofs.cursor.Cursor.pass.Goals as goal

known : (line : List Point) (d : Cursor) {stop : Option Point} {point : Point} {s : Step} → stop ≡ Some point → s ≡ step_of line d point →
    record { cursor = s.cursor; vertex = Some s.vertex } ≡ passed_of line d stop
known line d p q = rw (p, q)

pub returns-in-Some : goal.returns-in-Some
returns-in-Some c = known _ _ c.in-Some.is c.step-step.ensures

pub returns-in-None : goal.returns-in-None
returns-in-None c = rw c.in-None.is
