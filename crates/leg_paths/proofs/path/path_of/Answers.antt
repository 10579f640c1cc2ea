-- `leg_paths::path::path_of` meets its contract.
use Rattle.std.specs.Prelude.{Option, ℕ}
use borrow.Author.Rules.{rules}
use Prim.Native.Nat.{◌≤◌}
use mathlib.Core.Path.{subst}
use Rattle.leg_paths.specs.Leg.{leg_count}
use Rattle.leg_paths.proofs.path.path_of.Goals as goal

pub returns-in_default : goal.returns-in_default
returns-in_default c = rw c.in_default.is

pub trip_path-requires : goal.trip_path-requires
trip_path-requires c = let a = c.args in subst (λ (f : Option ℕ). leg_count a.lent.now.words.now a.c f ≤ 1000000) c.in-Some.is c.requires

pub returns : goal.returns
returns c = rw (c.in-Some.is, c.trip_path.ensures)
