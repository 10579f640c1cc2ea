use borrow.Author.Rules.{rules}
use Rattle.tokens.specs.Tokens.{journey_token}
use Rattle.refs.proofs.journey_id.Reads as journey-id-reads
use Rattle.parts.proofs.after_last.Reads as after-last-reads
use Rattle.tokens.proofs.token.ref_token.Reads as ref-token-reads
use Rattle.tokens.proofs.token.journey_token.Goals as goal

pub returns : goal.returns
unfolding journey_token
returns c = rw (c.ref_token.ensures, c.after_last.ensures, c.journey_id.ensures)
