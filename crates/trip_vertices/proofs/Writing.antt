-- The vertices of a trip's stops, written one by one. Assumes nothing.
use Rattle.std.specs.Prelude.{Option, Some, None}
use Prim.Native.Nat.{ℕ, zero, suc, ◌+◌, ◌-◌, ◌<◌, ◌≤◌}
use native.Mathlib.Omega.{arith}
use mathlib.Core.Path.{◌≡◌, refl, sym, ap, subst, ◌∙◌}
use mathlib.Core.List.{List, [], ◌∷◌, ◌++◌, map}
use lib.ListN.{length, length-map, length-set, take, drop, get_or, set}
use lib.Seq.{paste, paste-suc, take_all}
use Rattle.ids.proofs.ByteOrder.{clash}
use Rattle.lengths.specs.declared.line.Point.{Point}
use Rattle.near_vertex.specs.Forward.{or_vertex}
use Rattle.projection.specs.Projection.{at_start, passed_of, projection_from, step_of}
use Rattle.projection.specs.declared.cursor.Cursor.{Cursor}
use Rattle.projection.specs.declared.cursor.Passed.{Passed}
use Rattle.near_vertex.proofs.Range.{first_most}
use Rattle.projection.proofs.Order.{same_count}
use Rattle.trip_vertices.specs.declared.mark.Marked.{Marked}
use Rattle.trip_vertices.specs.Vertices.{word_of, marked_of, positions_from, vertex_words}

-- a vertex is one of the line's, or 0
pub vertex_most : (line : List Point) (c : Cursor) (stop : Option Point) (k : ℕ) → (passed_of line c stop).vertex ≡ Some k → k ≤ length line - 1
unfolding step_of
vertex_most line c (Some p) k e = let q = ap (λ (f : Option ℕ). or_vertex f 0) e in rw (← q) (first_most line c.at p)
vertex_most line c None k e = clash (cc)

-- a stop with a vertex, and one without, as they are written
module _ (line : List Point) (at : ℕ) (stop : Option Point) (p : Passed) (e : p ≡ passed_of line (record { at = at }) stop) where
  pub mark_small : (k : ℕ) → p.vertex ≡ Some k → length line ≤ 4294967295 → k < 4294967296
  mark_small k q h = omega (arith, vertex_most line (record { at = at }) stop k (ap (λ (x : Passed). x.vertex) (sym e) ∙ q))

  pub mark_at : (k : ℕ) → p.vertex ≡ Some k → ◌≡◌ {A = Marked} (record { at = p.cursor.at; word = k }) (marked_of line at stop)
  unfolding marked_of
  mark_at k q = rw (← e, q)

  pub mark_none : p.vertex ≡ None → ◌≡◌ {A = Marked} (record { at = p.cursor.at; word = 4294967295 }) (marked_of line at stop)
  unfolding marked_of
  mark_none q = rw (← e, q)

module _ (line : List Point) (position : ℕ → Option Point) where
  -- what is still to be written of n rows, from a cursor on
  abbrev pub left : ℕ → ℕ → ℕ → List ℕ
  left at row n = map word_of (projection_from line (record { at = at }) (positions_from position row n))

  pub next_left : (at row n : ℕ) → left at row (suc n) ≡ (marked_of line at (position row)).word ∷ left (marked_of line at (position row)).at (suc row) n
  unfolding projection_from positions_from marked_of
  next_left at row n = refl

  positions_count : (row n : ℕ) → length (positions_from position row n) ≡ n
  unfolding positions_from
  positions_count row zero = refl
  positions_count row (suc n) = ap suc (positions_count (suc row) n)

  pub words_count : (row n : ℕ) → length (vertex_words line position row n) ≡ n
  unfolding vertex_words
  words_count row n =
      let stops = positions_from position row n in
      omega (arith, length-map (projection_from line at_start stops) word_of, same_count line at_start stops, positions_count row n)

-- the element at k, and those after it
module _ {w : ℕ} {ws : List ℕ} where
  pub at_head : (vs : List ℕ) (k : ℕ) → drop k vs ≡ w ∷ ws → get_or vs k 0 ≡ w
  at_head vs zero e = rw e
  at_head [] (suc k) e = clash (cc)
  at_head (v ∷ vs) (suc k) e = at_head vs k e

  pub after_head : (vs : List ℕ) (k : ℕ) → drop k vs ≡ w ∷ ws → drop (suc k) vs ≡ ws
  after_head vs zero e = rw e
  after_head [] (suc k) e = clash (cc)
  after_head (v ∷ vs) (suc k) e = after_head vs k e

-- an output whose first k words are those of vs
abbrev pub begun : List ℕ → List ℕ → ℕ → List ℕ
begun vs out k = take k vs ++ drop k out

pasted : (vs out : List ℕ) (k : ℕ) → paste out 0 vs k ≡ begun vs out k
pasted vs out k = let z : 0 + k ≡ k = omega arith in ap (λ (n : ℕ). take k vs ++ drop n out) z

-- a loop that has written so many
module _ (vs out₀ : List ℕ) where
  pub one_more : (k : ℕ) → k < length out₀ → k < length vs → set (begun vs out₀ k) k (get_or vs k 0) ≡ begun vs out₀ (suc k)
  one_more k room l =
      let z : k ≡ 0 + k = omega arith in
      ap (λ (out : List ℕ). set out k (get_or vs k 0)) (sym (pasted vs out₀ k))
      ∙ ap (λ (n : ℕ). set (paste out₀ 0 vs k) n (get_or vs k 0)) z
      ∙ paste-suc out₀ 0 vs k 0 (omega arith) l
      ∙ pasted vs out₀ (suc k)

  pub all_of_them : (k : ℕ) → k ≡ length vs → begun vs out₀ k ≡ vs ++ drop k out₀
  all_of_them k l = ap (λ (ws : List ℕ). ws ++ drop k out₀) (take_all k vs (omega arith))

-- the loop: where it stands after k rows
module _ (line : List Point) (position : ℕ → Option Point) (first n : ℕ) (out₀ : List ℕ) where
  abbrev all : List ℕ
  all = vertex_words line position first n

  pub record Filled (out : List ℕ) (at k : ℕ) : Type 0 where
    pub so_far : k ≤ n
    pub long : length out ≡ length out₀
    pub begins : out ≡ begun all out₀ k
    pub rest : drop k all ≡ left line position at (first + k) (n - k)

  pub starts : Filled out₀ 0 0
  unfolding vertex_words
  starts = let z : first + 0 ≡ first = omega arith in let m : n - 0 ≡ n = omega arith in record { so_far = omega arith; long = refl; begins = refl; rest = rw (z, m) }

  module _ {out : List ℕ} {at k : ℕ} (f : Filled out at k) where
    goes : k < n → n ≤ length out₀ → {m : Marked} → m ≡ marked_of line at (position (first + k)) → Filled (set out k m.word) m.at (suc k)
    goes l room {m} e =
        let i : n - k ≡ suc (n - suc k) = omega arith in
        let j : first + suc k ≡ suc (first + k) = omega arith in
        let next : drop k all ≡ m.word ∷ left line position m.at (suc (first + k)) (n - suc k) = f.rest ∙ rw (i, e) (next_left line position at (first + k) (n - suc k)) in
        record {
          so_far = omega arith;
          long = simp length-set f.long;
          begins = rw (f.begins, ← at_head all k next) (one_more all out₀ k (omega arith) (omega (arith, words_count line position first n)));
          rest = rw j (after_head all k next);
        }

    pub goes_on : k < n → n ≤ length out₀ → {m : Marked} → m ≡ marked_of line at (position (first + k)) → Filled (set out k m.word) m.at (k + 1)
    goes_on l room {m} e = let i : suc k ≡ k + 1 = omega arith in subst (Filled (set out k m.word) m.at) i (goes l room e)

    pub ends : n ≤ k → out ≡ all ++ drop n out₀
    ends h = let e : k ≡ n = omega (arith, f.so_far) in f.begins ∙ rw e (all_of_them all out₀ n (sym (words_count line position first n)))
