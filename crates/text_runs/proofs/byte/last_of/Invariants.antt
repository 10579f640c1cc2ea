-- `text_runs::byte::last_of` meets its contract. The loop's invariant: the last of all is the last below k.
use mathlib.Core.Path.{◌≡◌}
use Rattle.ids.specs.First.{last}
use Rattle.text_runs.specs.Runs.{byte_is, last_byte}
use Rattle.text_runs.proofs.byte.last_of.Given as goal

abbrev pub invariant-loop-k : goal.invariant-loop-k
invariant-loop-k l = last_byte l.s l.byte ≡ last (byte_is l.s l.byte) l.k
