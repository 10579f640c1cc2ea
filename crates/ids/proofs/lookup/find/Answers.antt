use borrow.Author.Rules.{rules}
use native.Mathlib.Omega.{arith}
use Prim.Native.Nat.{◌+◌, ◌-◌, ◌/◌, ℕ}
use mathlib.Core.List.{List}
use mathlib.Core.Path.{◌∙◌, ◌≡◌, ap, sym}
use Rattle.ids.specs.Cmp.{cmp}
use Rattle.ids.specs.Pool.{id_of}
use Rattle.ids.proofs.Rows.{Bracket, down, hit, miss, start, up}
use Rattle.ids.proofs.lookup.find.Goals as goal

pub loop-lo-init : goal.loop-lo-init
loop-lo-init c = start (id_of c.args.lent.now.bytes.now c.args.lent.now.words.now c.args.col) c.args.col.starts.n c.args.key.now

pub returns-in-Equal : goal.returns-in-Equal
returns-in-Equal c =
    hit (id_of c.args.lent.now.bytes.now c.args.lent.now.words.now c.args.col) c.args.col.starts.n c.requires c.args.key.now _ (omega arith) (sym (c.compare.ensures ∙ ap (λ (x : List ℕ). cmp x c.args.key.now) c.id-s.ensures) ∙ c.in-Equal.is)

pub loop-lo-preserved-in-Less : goal.loop-lo-preserved-in-Less
loop-lo-preserved-in-Less c =
    up (id_of c.args.lent.now.bytes.now c.args.lent.now.words.now c.args.col) c.args.col.starts.n c.requires c.args.key.now c.loop-lo.lo _ _ c.loop-lo.invariant (omega arith) (sym (c.compare.ensures ∙ ap (λ (x : List ℕ). cmp x c.args.key.now) c.id-s.ensures) ∙ c.in-Less.is)

pub loop-lo-preserved : goal.loop-lo-preserved
loop-lo-preserved c =
    down (id_of c.args.lent.now.bytes.now c.args.lent.now.words.now c.args.col) c.args.col.starts.n c.requires c.args.key.now _ c.loop-lo.hi _ c.loop-lo.invariant (omega arith) (omega arith) (sym (c.compare.ensures ∙ ap (λ (x : List ℕ). cmp x c.args.key.now) c.id-s.ensures) ∙ c.in-Greater.is)

pub returns : goal.returns
returns c =
    miss (id_of c.args.lent.now.bytes.now c.args.lent.now.words.now c.args.col) c.args.col.starts.n c.requires c.args.key.now _ _ c.loop-lo.invariant c.loop-lo-test.false
