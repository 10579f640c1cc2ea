use Rattle.std.specs.declared.cmp.Ordering.{Ordering}
use Rattle.std.specs.declared.cmp.Ordering.TheVariants.{Less, Equal, Greater}
use borrow.Author.Rules.{rules}
use native.Mathlib.Omega.{arith}
use Prim.Native.Nat.{◌+◌, ◌-◌, ◌/◌, ℕ}
use mathlib.Core.List.{List}
use mathlib.Core.Path.{◌∙◌, ◌≡◌, sym}
use Rattle.ids.proofs.ByteOrder.{clash}
use Rattle.column_order.specs.Order.{cmp_parts}
use Rattle.row_stands.specs.Stands.{key_of, parts_at, stand_of}
use Rattle.row_lookup.proofs.Halves.{Bracket, down, found, start, up}
use Rattle.row_lookup.proofs.search.seek.Goals as goal

not_less : {x y : Ordering} (o : Ordering) → y ≡ o → x ≡ y → (o ≡ Less → ⊥) → (x ≡ Less → ⊥)
not_less o p q h e = h (sym p ∙ sym q ∙ e)

pub loop-lo-init : goal.loop-lo-init
loop-lo-init c =
    let a = c.args in
    let r = parts_at a.lent.now.bytes.now a.lent.now.words.now a.rows in
    let k = key_of a.rows a.a.now a.b.now a.day a.flag in
    start r k c.args.n

pub loop-lo-preserved-in-Less : goal.loop-lo-preserved-in-Less
unfolding stand_of
loop-lo-preserved-in-Less c =
    let a = c.args in
    let r = parts_at a.lent.now.bytes.now a.lent.now.words.now a.rows in
    let k = key_of a.rows a.a.now a.b.now a.day a.flag in
    up r k c.args.n c.requires.pairs c.loop-lo.lo c.loop-lo.hi _ c.loop-lo.invariant (omega arith) (sym c.stands.ensures ∙ c.in-Less.is)

pub loop-lo-preserved-in-Equal : goal.loop-lo-preserved-in-Equal
unfolding stand_of
loop-lo-preserved-in-Equal c =
    let a = c.args in
    let r = parts_at a.lent.now.bytes.now a.lent.now.words.now a.rows in
    let k = key_of a.rows a.a.now a.b.now a.day a.flag in
    down r k c.args.n c.requires.pairs c.loop-lo.lo c.loop-lo.hi _ c.loop-lo.invariant (omega arith) (omega arith) (not_less Equal c.in-Equal.is (sym c.stands.ensures) (λ q. clash (cc)))

pub loop-lo-preserved : goal.loop-lo-preserved
unfolding stand_of
loop-lo-preserved c =
    let a = c.args in
    let r = parts_at a.lent.now.bytes.now a.lent.now.words.now a.rows in
    let k = key_of a.rows a.a.now a.b.now a.day a.flag in
    down r k c.args.n c.requires.pairs c.loop-lo.lo c.loop-lo.hi _ c.loop-lo.invariant (omega arith) (omega arith) (not_less Greater c.in-Greater.is (sym c.stands.ensures) (λ q. clash (cc)))

pub returns : goal.returns
unfolding stand_of
returns c =
    let a = c.args in
    let r = parts_at a.lent.now.bytes.now a.lent.now.words.now a.rows in
    let k = key_of a.rows a.a.now a.b.now a.day a.flag in
    found r k c.args.n c.loop-lo.lo c.loop-lo.hi c.loop-lo.invariant c.loop-lo-test.false
