-- `row_lookup::search::row_of` meets its contract. Rows that ascend have what is asked of at its place, or nowhere.
use Rattle.std.specs.declared.cmp.Ordering.{Ordering}
use Rattle.std.specs.declared.cmp.Ordering.TheVariants.{Less, Equal, Greater}
use borrow.Author.Rules.{rules}
use mathlib.Core.List.{List}
use mathlib.Core.Path.{◌∙◌, ◌≡◌, sym}
use Prim.Native.Nat.{ℕ}
use native.Mathlib.Omega.{arith}
use Rattle.ids.proofs.ByteOrder.{clash}
use Rattle.row_stands.specs.Stands.{key_of, parts_at, stand_of}
use Rattle.row_lookup.proofs.Halves.{here, nowhere}
use Rattle.row_lookup.proofs.search.row_of.Goals as goal

-- a row that stands before or after what is asked of is not what is asked of, and one that stands before does not stand after
before_not : {x y : Ordering} → y ≡ x → y ≡ Less → x ≡ Equal → ⊥
before_not p q r = clash (cc)

after_not : {x y : Ordering} → y ≡ x → y ≡ Greater → x ≡ Equal → ⊥
after_not p q r = clash (cc)

less_not : {x : Ordering} → x ≡ Less → x ≡ Greater → ⊥
less_not p q = clash (cc)

pub seek-k-requires : goal.seek-k-requires
seek-k-requires c = record { pairs = λ i j l m e. less_not (c.requires.pairs i j l m) e }

pub returns-in-Equal : goal.returns-in-Equal
unfolding stand_of
returns-in-Equal c =
    let a = c.args in
    let r = parts_at a.lent.now.bytes.now a.lent.now.words.now a.rows in
    let k = key_of a.rows a.a.now a.b.now a.day a.flag in
    here r k c.args.n c.seek-k.result c.seek-k.ensures c.requires.pairs c.if-k-n.true (sym c.stands.ensures ∙ c.in-Equal.is)

pub returns-in-Less : goal.returns-in-Less
unfolding stand_of
returns-in-Less c =
    let a = c.args in
    let r = parts_at a.lent.now.bytes.now a.lent.now.words.now a.rows in
    let k = key_of a.rows a.a.now a.b.now a.day a.flag in
    nowhere r k c.args.n c.seek-k.result c.seek-k.ensures c.requires.pairs (λ l e. before_not c.stands.ensures c.in-Less.is e)

pub returns-in-Greater : goal.returns-in-Greater
unfolding stand_of
returns-in-Greater c =
    let a = c.args in
    let r = parts_at a.lent.now.bytes.now a.lent.now.words.now a.rows in
    let k = key_of a.rows a.a.now a.b.now a.day a.flag in
    nowhere r k c.args.n c.seek-k.result c.seek-k.ensures c.requires.pairs (λ l e. after_not c.stands.ensures c.in-Greater.is e)

pub returns-else-k-n : goal.returns-else-k-n
unfolding stand_of
returns-else-k-n c =
    let a = c.args in
    let r = parts_at a.lent.now.bytes.now a.lent.now.words.now a.rows in
    let k = key_of a.rows a.a.now a.b.now a.day a.flag in
    nowhere r k c.args.n c.seek-k.result c.seek-k.ensures c.requires.pairs (λ l e. absurd (omega (arith, c.if-k-n.false)))
