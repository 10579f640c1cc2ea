use Rattle.std.proofs.Common.{rules, ◌∙◌, ℕ, Bool, not}
use borrow.Author.Tests.{tests}
use Rattle.std.proofs.lemmas.Iterator.{YieldsList-from_slice}
use Rattle.std.proofs.lemmas.Iterator.Search.{any_from_yields_List}
use Rattle.columns.proofs.Scan.{any_at}
use Rattle.days.specs.Days.{is_date}
use Rattle.faults.specs.Fault.{no_date_at}
use Rattle.faults.proofs.column.no_date.Goals as goal

pub returns : goal.returns
unfolding no_date_at
returns c =
    let at_fault : ℕ → Bool = λ x. not (is_date x) in
    any_from_yields_List at_fault _ _ c.any.result c.any.ensures.ran (YieldsList-from_slice c.args.s.now cc) (λ x b q k. search (rules, tests)) ∙ any_at at_fault 0 c.args.s.now
