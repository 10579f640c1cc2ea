-- `texts::text::trimmed_text` meets its contract. The loop's invariant: what is left, with the tail taken away as often as it can be, is the answer.
use mathlib.Core.Path.{◌≡◌}
use lib.ListN.{length}
use Rattle.texts.specs.Texts.{trimmed_text}
use Rattle.texts.proofs.text.trimmed_text.Given as goal

abbrev pub invariant-loop-rest : goal.invariant-loop-rest
invariant-loop-rest l = trimmed_text l.tail l.left ≡ trimmed_text l.tail l.fn.s

abbrev pub decreases-loop-rest : goal.decreases-loop-rest
decreases-loop-rest l = length l.left
