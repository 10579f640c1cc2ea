use borrow.Author.Rules.{rules}
use lib.Ieee.{div}
use Rattle.row_distances.specs.Rows.{in_feed}
use Rattle.row_distances.proofs.row.in_feed.Goals as goal

pub returns : goal.returns
unfolding div in_feed
returns c = search rules
