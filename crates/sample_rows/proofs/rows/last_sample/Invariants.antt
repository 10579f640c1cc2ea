-- the last of all is the last of the rows that are left
use Rattle.std.proofs.Common.{◌≡◌}
use Rattle.ids.specs.First.{last}
use Rattle.sample_rows.specs.Samples.{sample_from}
use Rattle.sample_rows.proofs.rows.last_sample.Given as goal

abbrev pub invariant-loop-k : goal.invariant-loop-k
invariant-loop-k l = last (sample_from l.lent.bytes.now l.lent.words.now l.c l.from) l.n ≡ last (sample_from l.lent.bytes.now l.lent.words.now l.c l.from) l.k
