-- The rows of a chain in its direction. Assumes nothing.
use Rattle.std.specs.Prelude.{Option, Some, None}
use Prim.Native.Nat.{ℕ, zero, suc, ◌-◌, ◌<◌, ◌≤◌}
use native.Mathlib.Omega.{arith}
use mathlib.Core.Path.{◌≡◌, refl, sym, ap, ◌∙◌}
use mathlib.Core.Bool.{Bool, true, false, cond}
use mathlib.Core.List.{List, [], ◌∷◌, ◌++◌, append_assoc, append-nil, map, reverse, reverse-append, reverse-cons, map-append}
use Rattle.ids.specs.First.{last}
use Rattle.ids.proofs.ByteOrder.{clash}
use Rattle.lengths.specs.declared.line.Point.{Point}
use Rattle.chain_rows.specs.declared.chain.Chain.{Chain}
use Rattle.chain_lines.specs.Thin.{turned_if}
use Rattle.chain_lines.specs.Kept.{row_kept}
use Rattle.chain_vertices.specs.Vertices.{ahead, points_ahead}
use Rattle.chain_lines.proofs.Thinning.{kept_below, rows, point_at, kept_rows}

-- against the order of the rows, and with it
module _ (q : ℕ → Bool) where
  one_back : (b : Bool) (n : ℕ) (ns : List ℕ) → cond b (n ∷ ns) ns ≡ reverse (cond b (n ∷ []) []) ++ ns
  one_back true n ns = refl
  one_back false n ns = refl

  back : (n : ℕ) → ahead q (λ (m : ℕ). m) n ≡ reverse (rows q n)
  unfolding ahead rows
  back zero = refl
  back (suc n) = rw (reverse-append (rows q n) (cond (q n) (n ∷ []) []), back n) (one_back (q n) n (reverse (rows q n)))

  one_forth : (b : Bool) (n : ℕ) (ns : List ℕ) → cond b (n ∷ []) [] ++ ns ≡ cond b (n ∷ ns) ns
  one_forth true n ns = refl
  one_forth false n ns = refl

  forth : (n m : ℕ) → m ≤ n → rows q n ≡ rows q (n - m) ++ ahead q (λ (i : ℕ). n - suc i) m
  unfolding ahead rows
  forth n zero h = let e : n - 0 ≡ n = omega arith in rw e (sym (append-nil (rows q n)))
  forth n (suc m) h =
      let e : n - m ≡ suc (n - suc m) = omega arith in
      let r = n - suc m in
      forth n m (omega arith)
      ∙ rw e (append_assoc (rows q r) (cond (q r) (r ∷ []) []) (ahead q (λ (i : ℕ). n - suc i) m))
      ∙ ap (λ (l : List ℕ). rows q r ++ l) (one_forth (q r) r (ahead q (λ (i : ℕ). n - suc i) m))

turned_map : (f : ℕ → Point) (ns : List ℕ) → map f (reverse ns) ≡ reverse (map f ns)
turned_map f [] = refl
turned_map f (n ∷ ns) = rw (reverse-cons n ns, map-append f (reverse ns) (n ∷ []), turned_map f ns, reverse-cons (f n) (map f ns))

all_points : (q : ℕ → Bool) (f : ℕ → Point) (b : Bool) (n : ℕ) → map f (ahead q (λ (m : ℕ). cond b m (n - suc m)) n) ≡ turned_if b (map f (rows q n))
unfolding rows
all_points q f true n = ap (map f) (back q n) ∙ turned_map f (rows q n)
all_points q f false n =
    let e : n - n ≡ 0 = omega arith in
    let all : rows q (n - n) ++ ahead q (λ (i : ℕ). n - suc i) n ≡ ahead q (λ (i : ℕ). n - suc i) n = rw e in
    ap (map f) (sym (forth q n n (omega arith) ∙ all))

-- of all rows, what is ahead are the stops that are kept, in the chain's direction
pub all_ahead : (stop : ℕ → Option Point) (chain : Chain) → points_ahead stop chain chain.count ≡ turned_if chain.reversed (kept_below stop chain.count)
all_ahead stop chain =
    all_points (row_kept stop) (point_at stop) chain.reversed chain.count ∙ ap (turned_if chain.reversed) (sym (kept_rows stop chain.count))

-- the next row that is kept, and what is ahead of it
module _ (q : ℕ → Bool) (row : ℕ → ℕ) where
  abbrev passes : ℕ → Bool
  passes m = q (row m)

  found_step : (n m : ℕ) (b : Bool) → (last passes n ≡ Some m → ahead q row n ≡ row m ∷ ahead q row m) → cond b (Some n) (last passes n) ≡ Some m →
      cond b (row n ∷ ahead q row n) (ahead q row n) ≡ row m ∷ ahead q row m
  found_step n m true h e = let k : n ≡ m = cc in rw k
  found_step n m false h e = h e

  pub found_ahead : (n m : ℕ) → last passes n ≡ Some m → ahead q row n ≡ row m ∷ ahead q row m
  unfolding ahead last
  found_ahead zero m e = clash (cc)
  found_ahead (suc n) m e = found_step n m (q (row n)) (found_ahead n m) e

  none_step : (n : ℕ) (b : Bool) → (last passes n ≡ None → ahead q row n ≡ []) → cond b (Some n) (last passes n) ≡ None →
      cond b (row n ∷ ahead q row n) (ahead q row n) ≡ []
  none_step n true h e = clash (cc)
  none_step n false h e = h e

  pub none_ahead : (n : ℕ) → last passes n ≡ None → ahead q row n ≡ []
  unfolding ahead last
  none_ahead zero e = refl
  none_ahead (suc n) e = none_step n (q (row n)) (none_ahead n) e

-- the last that passes one test passes another that is the same below n
pub last_same : (p q : ℕ → Bool) (n : ℕ) → ((m : ℕ) → m < n → p m ≡ q m) → last p n ≡ last q n
unfolding last
last_same p q zero h = refl
last_same p q (suc n) h = rw (h n (omega arith), last_same p q n (λ m l. h m (omega arith)))
