use Rattle.std.proofs.Common.{rules, ◌∙◌}
use borrow.Author.Tests.{tests}
use Rattle.std.specs.Float.{nan}
use Rattle.std.specs.Float.Ieee.{is_nan}
use Rattle.std.proofs.lemmas.Iterator.{YieldsList-from_slice}
use Rattle.std.proofs.lemmas.Iterator.Search.{any_from_yields_List}
use Rattle.columns.proofs.Scan.{any_at}
use Rattle.faults.specs.Fault.{nan_at}
use Rattle.faults.proofs.column.not_a_number.Goals as goal

pub returns : goal.returns
unfolding nan_at
returns c =
    any_from_yields_List is_nan _ _ c.any.result c.any.ensures.ran (YieldsList-from_slice c.args.s.now cc) (λ x b q k. search (rules, tests)) ∙ any_at is_nan nan c.args.s.now
