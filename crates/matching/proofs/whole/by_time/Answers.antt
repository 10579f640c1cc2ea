use borrow.Author.Rules.{rules}
use mathlib.Core.Path.{◌∙◌, sym}
use Rattle.matching.specs.Matching.{timed_trip}
use Rattle.matching.proofs.Tokens.{no_token, with_token}
use Rattle.tokens.proofs.token_of.Reads as token-of-reads
use Rattle.trip_times.proofs.by_token.Reads as by-token-reads
use Rattle.matching.proofs.whole.by_time.Goals as goal

pub returns-then-not-departs : goal.returns-then-not-departs
unfolding timed_trip
returns-then-not-departs c = rw (c.if-not-departs.true)

pub returns-then-token-eq0 : goal.returns-then-token-eq0
unfolding timed_trip
returns-then-token-eq0 c = let a = c.args in let t = a.timetable.now in rw (c.if-not-departs.false, ← c.token_of-token.ensures) (no_token t.lent.bytes.now t.lent.words.now t.plan a.asked.today a.asked.yesterday c.token_of-token.result.now c.if-token-eq0.true)

pub returns : goal.returns
unfolding timed_trip
returns c = let a = c.args in let t = a.timetable.now in rw (c.if-not-departs.false, ← c.token_of-token.ensures) (c.by_token.ensures ∙ with_token t.lent.bytes.now t.lent.words.now t.plan a.asked.today a.asked.yesterday c.token_of-token.result.now c.if-token-eq0.false)
