-- `keys::key::find_joined` meets its contract. A part that is longer than every id makes the key longer too. Otherwise the buffer has room for all four, and holds them joined.
use Rattle.std.specs.Prelude.{None}
use native.Mathlib.Omega.{arith}
use Prim.Native.Nat.{◌+◌, ◌<◌, ℕ}
use mathlib.Core.List.{List, ◌++◌, append_assoc}
use mathlib.Core.Path.{◌∙◌, ◌≡◌, ap, sym}
use lib.ListN.{length, length-append}
use lib.Seq.{length-take-le}
use Rattle.ids.specs.Pool.{id_of}
use Rattle.ids.specs.Rows.{GoodIds, row_of}
use Rattle.ids.proofs.Rows.{too_long}
use Rattle.keys.proofs.key.find_joined.Goals as goal

over : (R : ℕ → List ℕ) (n : ℕ) (a b c d : List ℕ) → GoodIds R n → 96 < length a + (length b + (length c + length d)) → None ≡ row_of R n (a ++ (b ++ (c ++ d)))
over R n a b c d g l =
    let k = a ++ (b ++ (c ++ d)) in
    let e : length k ≡ length a + (length b + (length c + length d)) = simp length-append in
    too_long R n g k (omega arith)

-- four parts, each put after what stands already
joined : (a b c d : List ℕ) {w x y z : List ℕ} → w ≡ a → x ≡ w ++ b → y ≡ x ++ c → z ≡ y ++ d → z ≡ a ++ (b ++ (c ++ d))
joined a b c d p q r s = s ∙ ap (λ (k : List ℕ). k ++ d) (r ∙ ap (λ (k : List ℕ). k ++ c) (q ∙ ap (λ (k : List ℕ). k ++ b) p)) ∙ simp append_assoc

pub returns-then-a-gt96 : goal.returns-then-a-gt96
returns-then-a-gt96 c =
    let a = c.args in
    over (id_of a.lent.now.bytes.now a.lent.now.words.now a.col) a.col.starts.n a.a.now a.b.now a.c.now a.d.now c.requires (omega arith)

pub returns-then-b-gt96 : goal.returns-then-b-gt96
returns-then-b-gt96 c =
    let a = c.args in
    over (id_of a.lent.now.bytes.now a.lent.now.words.now a.col) a.col.starts.n a.a.now a.b.now a.c.now a.d.now c.requires (omega arith)

pub returns-then-c-gt96 : goal.returns-then-c-gt96
returns-then-c-gt96 c =
    let a = c.args in
    over (id_of a.lent.now.bytes.now a.lent.now.words.now a.col) a.col.starts.n a.a.now a.b.now a.c.now a.d.now c.requires (omega arith)

pub returns-then-d-gt96 : goal.returns-then-d-gt96
returns-then-d-gt96 c =
    let a = c.args in
    over (id_of a.lent.now.bytes.now a.lent.now.words.now a.col) a.col.starts.n a.a.now a.b.now a.c.now a.d.now c.requires (omega arith)

pub slice_bounds-find-end : goal.slice_bounds-find-end
slice_bounds-find-end c = sym (length-take-le _ _ (omega arith))

pub returns : goal.returns
returns c =
    let a = c.args in
    c.find.ensures ∙ ap (row_of (id_of a.lent.now.bytes.now a.lent.now.words.now a.col) a.col.starts.n) (joined a.a.now a.b.now a.c.now a.d.now c.put-i.ensures.1 c.put-j.ensures.1 c.put-k.ensures.1 c.put-n.ensures.1)
