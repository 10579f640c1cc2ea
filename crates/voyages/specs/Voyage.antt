-- A sailing without its clock. Definitions only.
use Rattle.std.specs.Prelude.{ℕ, Bool, List}
use Rattle.lengths.specs.declared.line.Point.{Point}
use Rattle.paths.specs.declared.path.Path.{Path}

-- a leg: its ends, the lines that a place on it may be counted over, and the path
pub record Leg : Type 0 where
  pub from : Point
  pub to : Point
  pub shape : List Point
  pub chain : List Point
  pub path : Path

-- The leg to the first call: from the static stop before it, in so many seconds by the schedule; or none, where no static stop is before it.
pub data Approach : Type 0 where
  none : Approach
  over : Leg → ℕ → Approach

-- Where she is pinned without a call: the best stop, its sequence and its position; or none, where that cannot be placed.
pub data Pin : Type 0 where
  unplaced : Pin
  pinned : ℕ → ℕ → Point → Pin

-- Calls are counted from 0. `arrs` and `deps` are their moments; leg k is the one from call k to the next.
pub record Voyage : Type 0 where
  pub cancelled : Bool
  pub arrs : List ℕ
  pub deps : List ℕ
  pub stop : ℕ → ℕ
  pub sequence : ℕ → ℕ
  pub position : ℕ → Point
  pub leg : ℕ → Leg
  pub approach : Approach
  pub pin : Pin
