use mathlib.Core.Bool.{true, false}
use mathlib.Core.Path.{◌∙◌, ◌≡◌, sym, ap}
use native.Mathlib.Omega.{arith}
use Prim.Native.Nat.{◌<◌}
use lib.ListN.{length}
use Rattle.texts.specs.Texts.{suffix_of, trimmed_text}
use Rattle.texts.proofs.Trims.{empty_trims, suffix_stripped, trimmed_once}
use Rattle.texts.proofs.text.trimmed_text.Goals as goal

pub returns-then-is_empty : goal.returns-then-is_empty
returns-then-is_empty c = empty_trims c.args.tail.now c.args.s.now (grind arith)

pub loop-rest-preserved : goal.loop-rest-preserved
loop-rest-preserved c =
    let tail = c.args.tail.now in
    let some : 0 < length tail = grind arith in
    let ends : suffix_of tail c.loop-rest.left.now ≡ true = suffix_stripped tail c.loop-rest.left.now true c.in-Some.ensures.cases.0 in
    let rest = ap (trimmed_text tail) c.in-Some.ensures.cases.1 in
    rest ∙ sym (rw ends at (trimmed_once tail some c.loop-rest.left.now)) ∙ c.loop-rest.invariant

pub returns : goal.returns
returns c =
    let tail = c.args.tail.now in
    let some : 0 < length tail = grind arith in
    let stays : suffix_of tail c.loop-rest.left.now ≡ false = suffix_stripped tail c.loop-rest.left.now false c.in_default.ensures.cases in
    sym (rw stays at (trimmed_once tail some c.loop-rest.left.now)) ∙ c.loop-rest.invariant
