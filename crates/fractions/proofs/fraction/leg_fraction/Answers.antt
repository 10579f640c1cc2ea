-- `fractions::fraction::leg_fraction` meets its contract.
use Rattle.fractions.specs.Fraction.{leg_fraction}
use Rattle.fractions.proofs.fraction.leg_fraction.Goals as goal

pub returns : goal.returns
unfolding leg_fraction
returns c =
    rw (c.clamp01.ensures, c.nearest_u64_to_f64-span.ensures, c.one_or_more.ensures, c.less-2.ensures, c.nearest_u64_to_f64-elapsed.ensures, c.less.ensures)
