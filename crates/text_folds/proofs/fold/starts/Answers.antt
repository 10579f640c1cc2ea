-- `text_folds::fold::starts` meets its contract. Without folding each byte is compared as it is.
use mathlib.Core.List.{map-id}
use mathlib.Core.Path.{◌∙◌}
use Rattle.text_folds.proofs.Folds.{starts_prefix}
use Rattle.text_folds.proofs.fold.starts.Goals as goal

pub returns-then-not-fold : goal.returns-then-not-fold
returns-then-not-fold c = rw c.if-not-fold.true (c.starts_with.ensures.value ∙ starts_prefix c.args.needle.now c.args.s.now ∙ simp map-id)
