-- The digits that are left spell what all do, after the value so far, which is below a power of the base.
use Rattle.std.proofs.Common.{◌≡◌, ◌<◌, ◌^◌, drop}
use Rattle.case_digits.specs.Digits.{spelled_from}
use Rattle.case_digits.proofs.digits.spelled.Given as goal

abbrev pub invariant-loop-b : goal.invariant-loop-b
invariant-loop-b l = (l.value < l.base ^ l.b-index) × (spelled_from l.base 0 l.s ≡ spelled_from l.base l.value (drop l.b-index l.s))
