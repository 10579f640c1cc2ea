use Rattle.std.proofs.Common.{rules, ◌∙◌, ltb, ◌||◌, ℕ, Bool}
use borrow.Author.Tests.{tests}
use Rattle.std.proofs.lemmas.Iterator.{YieldsList-from_slice}
use Rattle.std.proofs.lemmas.Iterator.Search.{any_from_yields_List}
use Rattle.columns.proofs.Scan.{any_at}
use Rattle.column_ids.specs.Text.{bad_byte_at, bad_text}
use Rattle.column_ids.proofs.text.bad_text.Goals as goal

pub returns : goal.returns
unfolding bad_text bad_byte_at
returns c =
    let bad : ℕ → Bool = λ x. ltb x 32 || ltb 126 x in
    any_from_yields_List bad _ _ c.any.result c.any.ensures.ran (YieldsList-from_slice c.args.s.now cc) (λ x b q k. search (rules, tests)) ∙ any_at bad 0 c.args.s.now
