-- `trip_times::upper::by_token` meets its contract. A token that fits the buffer is written there in upper case; a longer one has no line.
use native.Mathlib.Omega.{arith}
use Prim.Native.Nat.{ℕ}
use mathlib.Core.Path.{◌∙◌, ap, sym}
use mathlib.Core.List.{List, map}
use lib.ListN.{length-map}
use lib.Seq.{length-take-le}
use Rattle.ids.specs.Bytes.{upper_of}
use Rattle.trip_times.specs.Line.{line_trip}
use Rattle.trip_times.proofs.Long.{too_long}
use Rattle.trip_times.proofs.upper.by_token.Goals as goal

pub returns-then-token-gt96 : goal.returns-then-token-gt96
returns-then-token-gt96 c =
    let a = c.args in
    let t = a.timetable.now in
    too_long t.lent.bytes.now t.lent.words.now t.plan c.requires.short_tokens (map upper_of a.token.now) (omega (arith, c.if-token-gt96.true, length-map a.token.now upper_of)) a.asked.today a.asked.yesterday

pub slice_bounds-by_line-end : goal.slice_bounds-by_line-end
slice_bounds-by_line-end c = sym (length-take-le _ _ (omega arith))

pub returns : goal.returns
returns c =
    let a = c.args in
    let t = a.timetable.now in
    c.by_line.ensures ∙ ap (λ (x : List ℕ). line_trip t.lent.bytes.now t.lent.words.now t.plan x a.asked.today a.asked.yesterday) c.upper_into-n.ensures.1
