-- `questions::hex::number` meets its contract. The loop's invariant: the digits so far, which are below a power of sixteen.
use Prim.Native.Nat.{◌<◌, ◌^◌}
use mathlib.Core.Path.{◌≡◌}
use Rattle.questions.specs.Hex.{hex_of}
use Rattle.questions.proofs.hex.number.Given as goal

abbrev pub invariant-loop-i : goal.invariant-loop-i
invariant-loop-i l = (l.bits ≡ hex_of l.i l.digits) × (l.bits < 16 ^ l.i)
