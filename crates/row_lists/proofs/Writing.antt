-- Lists that a loop writes from their start: one for each row, or for each row that passes a test. Assumes nothing.
use Prim.Native.Nat.{ℕ, zero, suc, ◌+◌, ◌<◌, ◌≤◌}
use native.Mathlib.Omega.{arith}
use native.Mathlib.Numerals.{add-one}
use mathlib.Core.Path.{◌≡◌, refl, sym, ap, ◌∙◌}
use mathlib.Core.Bool.{Bool, true, false}
use mathlib.Core.List.{List, [], ◌∷◌, ◌++◌, map}
use lib.ListN.{length, get_or, set, take, drop, length-append, length-map, length-set}
use lib.Seq.{length-take-le, take_all, take-suc}
use Rattle.row_lists.specs.Rows.{passing}
use Rattle.row_lists.proofs.Rows.{passing_few, takes_row, leaves_row}

-- the output whose beginning is xs
abbrev pub written : List ℕ → List ℕ → List ℕ
written xs out = xs ++ drop (length xs) out

write_next : (xs out : List ℕ) (v : ℕ) → length xs < length out → set (written xs out) (length xs) v ≡ written (xs ++ (v ∷ [])) out
write_next [] [] v l = absurd (omega arith)
write_next [] (o ∷ out) v l = refl
write_next (x ∷ xs) [] v l = absurd (omega arith)
write_next (x ∷ xs) (o ∷ out) v l = ap (λ (ws : List ℕ). x ∷ ws) (write_next xs out v (omega arith))

map_next : (f : ℕ → ℕ) (xs : List ℕ) (v : ℕ) → map f (xs ++ (v ∷ [])) ≡ map f xs ++ (f v ∷ [])
map_next f [] v = refl
map_next f (x ∷ xs) v = ap (λ (ws : List ℕ). f x ∷ ws) (map_next f xs v)

-- f of each row that is handed over
module _ (f : ℕ → ℕ) (rows out₀ : List ℕ) where
  pub record Filled (out : List ℕ) (k : ℕ) : Type 0 where
    pub so_far : k ≤ length rows
    pub long : length out ≡ length out₀
    pub begins : out ≡ written (map f (take k rows)) out₀

  pub fill_starts : Filled out₀ 0
  fill_starts = record { so_far = omega arith; long = refl; begins = refl }

  module _ {out : List ℕ} {k : ℕ} (h : Filled out k) where
    pub fill_goes : k < length rows → length rows ≤ length out₀ → {v : ℕ} → v ≡ f (get_or rows k 0) → Filled (set out k v) (k + 1)
    fill_goes l room {v} e =
        let m : length (map f (take k rows)) ≡ k = length-map (take k rows) f ∙ length-take-le k rows (omega arith) in
        let step : map f (take (k + 1) rows) ≡ map f (take k rows) ++ (v ∷ []) = rw (add-one, take-suc rows k 0 l, e) (map_next f (take k rows) (get_or rows k 0)) in
        record {
          so_far = omega arith;
          long = length-set out k v ∙ h.long;
          begins = ap (λ (ws : List ℕ). set ws k v) h.begins ∙ ap (λ (i : ℕ). set (written (map f (take k rows)) out₀) i v) (sym m)
              ∙ write_next (map f (take k rows)) out₀ v (omega arith) ∙ ap (λ (ws : List ℕ). written ws out₀) (sym step);
        }

    pub fill_ends : length rows ≤ k → out ≡ map f rows ++ drop (length rows) out₀
    fill_ends l =
        h.begins ∙ ap (λ (ws : List ℕ). written (map f ws) out₀) (take_all k rows l) ∙ ap (λ (i : ℕ). map f rows ++ drop i out₀) (length-map rows f)

-- the rows that pass, and f of each
module _ (p : ℕ → Bool) (f : ℕ → ℕ) (rows₀ stops₀ : List ℕ) where
  pub record Collected (rows stops : List ℕ) (n k : ℕ) : Type 0 where
    pub count : n ≡ length (passing p k)
    pub rows_long : length rows ≡ length rows₀
    pub stops_long : length stops ≡ length stops₀
    pub rows_are : rows ≡ written (passing p k) rows₀
    pub stops_are : stops ≡ written (map f (passing p k)) stops₀

  pub collect_starts : Collected rows₀ stops₀ 0 0
  unfolding passing
  collect_starts = record { count = refl; rows_long = refl; stops_long = refl; rows_are = refl; stops_are = refl }

  module _ {rows stops : List ℕ} {n k : ℕ} (h : Collected rows stops n k) where
    pub collect_few : n ≤ k
    collect_few = omega (arith, h.count, passing_few p k)

    pub collect_leaves : p k ≡ false → Collected rows stops n (k + 1)
    collect_leaves t =
        let e = leaves_row p k t in
        record { count = rw e h.count; rows_long = h.rows_long; stops_long = h.stops_long; rows_are = rw e h.rows_are; stops_are = rw e h.stops_are }

    pub collect_takes : p k ≡ true → k < length rows₀ → k < length stops₀ → {s : ℕ} → s ≡ f k → Collected (set rows n k) (set stops n s) (n + 1) (k + 1)
    collect_takes t r q {s} e =
        let o = takes_row p k t in
        let m : length (map f (passing p k)) ≡ n = length-map (passing p k) f ∙ sym h.count in
        let step : map f (passing p (k + 1)) ≡ map f (passing p k) ++ (s ∷ []) = rw (o, e) (map_next f (passing p k) k) in
        record {
          count = rw o (omega (arith, h.count, length-append (passing p k) (k ∷ [])));
          rows_long = length-set rows n k ∙ h.rows_long;
          stops_long = length-set stops n s ∙ h.stops_long;
          rows_are = ap (λ (ws : List ℕ). set ws n k) h.rows_are ∙ ap (λ (i : ℕ). set (written (passing p k) rows₀) i k) h.count
              ∙ write_next (passing p k) rows₀ k (omega (arith, passing_few p k)) ∙ ap (λ (ws : List ℕ). written ws rows₀) (sym o);
          stops_are = ap (λ (ws : List ℕ). set ws n s) h.stops_are ∙ ap (λ (i : ℕ). set (written (map f (passing p k)) stops₀) i s) (sym m)
              ∙ write_next (map f (passing p k)) stops₀ s (omega (arith, passing_few p k, h.count)) ∙ ap (λ (ws : List ℕ). written ws stops₀) (sym step);
        }
