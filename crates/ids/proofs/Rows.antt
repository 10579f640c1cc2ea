-- A search by halves finds a table's row. The laws are over any rows and their count: one proof for every table. Assumes nothing.
use Rattle.std.specs.Prelude.{Some, None}
use Rattle.std.specs.declared.cmp.Ordering.TheVariants.{Less, Equal, Greater}
use Prim.Native.Nat.{ℕ, zero, suc, ◌<◌, ◌≤◌, ◌+◌}
use native.Mathlib.Omega.{arith}
use native.Mathlib.Nat.{eq-or-lt_of_le, le_of_suc-le-suc}
use native.Mathlib.Numerals.{add-one}
use mathlib.Core.Path.{◌≡◌, sym, ap}
use mathlib.Core.Logic.{⊎_elim, ◌↔◌}
use mathlib.Core.List.{List}
use lib.ListN.{length}
use lib.Dec.{ltb}
use borrow.Author.Tests.{ltb-true, ltb-false}
use Rattle.ids.specs.Cmp.{cmp}
use Rattle.ids.specs.Rows.{Ascending, GoodIds, row_is, row_of}
use Rattle.ids.proofs.ByteOrder.{split, clash, less_trans, less_more, same_equal, equal_iff, unequal, different}
use Rattle.ids.proofs.Search.{first_miss, first_hit, first_found, first_none}

module _ (row : ℕ → List ℕ) (n : ℕ) where
  -- What a search has shown: rows below lo come before the key, rows from hi on after it.
  pub record Bracket (key : List ℕ) (lo hi : ℕ) : Type 0 where
    pub lo_le : lo ≤ hi
    pub hi_le : hi ≤ n
    pub below : (k : ℕ) → k < lo → cmp (row k) key ≡ Less
    pub above : (k : ℕ) → hi ≤ k → k < n → cmp (row k) key ≡ Greater

  pub start : (key : List ℕ) → Bracket key 0 n
  start key = record { lo_le = omega arith; hi_le = omega arith; below = λ k l. absurd (omega arith); above = λ k l m. absurd (omega arith) }

  module _ (asc : Ascending row n) (key : List ℕ) where
    -- with a row that comes before the key all earlier ones do; with one that comes after it all later ones
    before : (i j : ℕ) → i ≤ j → j < n → cmp (row j) key ≡ Less → cmp (row i) key ≡ Less
    before i j l m e = ⊎_elim (λ (q : i ≡ j). rw q e) (λ q. less_trans _ _ _ (asc.pairs i j q m) e) (eq-or-lt_of_le l)

    after : (i j : ℕ) → i ≤ j → j < n → cmp (row i) key ≡ Greater → cmp (row j) key ≡ Greater
    after i j l m e =
        ⊎_elim (λ (q : i ≡ j). rw (← q) e)
        (λ q. (less_more key (row j)).0 (less_trans key (row i) (row j) ((less_more key (row i)).1 e) (asc.pairs i j q m)))
        (eq-or-lt_of_le l)

    pub up : (lo hi mid : ℕ) → Bracket key lo hi → mid < hi → cmp (row mid) key ≡ Less → Bracket key (mid + 1) hi
    up lo hi mid b m e = record {
      lo_le = omega arith;
      hi_le = b.hi_le;
      below = λ k l. before k mid (omega arith) (omega arith) e;
      above = b.above;
    }

    pub down : (lo hi mid : ℕ) → Bracket key lo hi → lo ≤ mid → mid < hi → cmp (row mid) key ≡ Greater → Bracket key lo mid
    down lo hi mid b l m e = record {
      lo_le = l;
      hi_le = omega arith;
      below = b.below;
      above = λ k h q. after mid k h q e;
    }

    pub hit : (mid : ℕ) → mid < n → cmp (row mid) key ≡ Equal → Some mid ≡ row_of row n key
    unfolding row_of
    hit mid m e =
        let q : row mid ≡ key = (same_equal (row mid) key).0 e in
        first_hit (row_is row key) n mid m ((equal_iff (row mid) key).1 q) (λ j l.
        let b : cmp (row j) key ≡ Less = rw q at (asc.pairs j mid l m) in different (row j) key (λ t. clash (cc)))

    pub miss : (lo hi : ℕ) → Bracket key lo hi → hi ≤ lo → None ≡ row_of row n key
    unfolding row_of
    miss lo hi b h =
        first_miss (row_is row key) n (λ j l.
        ⊎_elim (λ q. let o = b.below j (ltb-true j lo q) in different (row j) key (λ t. clash (cc)))
        (λ q. let o = b.above j (omega (arith, ltb-false j lo q)) l in different (row j) key (λ t. clash (cc)))
        (split (ltb j lo)))

    -- The row found is exactly the one that is the key.
    pub found_row : (k : ℕ) → (row_of row n key ≡ Some k) ↔ ((k < n) × (row k ≡ key))
    unfolding row_of
    found_row k = (
      λ e. let f = first_found (row_is row key) n k e in (f.0, (equal_iff (row k) key).0 f.1),
      λ h. sym (hit k h.0 ((same_equal (row k) key).1 h.1)),
    )

  -- Where none is found, no row is the key.
  pub no_row : (key : List ℕ) → row_of row n key ≡ None → (k : ℕ) → k < n → row k ≡ key → ⊥
  unfolding row_of
  no_row key e k l q = let f = first_none (row_is row key) n e k l in let t = (equal_iff (row k) key).1 q in clash (cc)

  -- A key that is longer than every row is in none.
  pub too_long : GoodIds row n → (key : List ℕ) → 96 < length key → None ≡ row_of row n key
  unfolding row_of
  too_long good key l = first_miss (row_is row key) n (λ j m. unequal (row j) key (λ e. omega (arith, good.short j m, ap length e)))

  -- Rows of which each comes before the next ascend.
  pub ascending_of_neighbours : ((k : ℕ) → k + 1 < n → cmp (row k) (row (k + 1)) ≡ Less) → Ascending row n
  ascending_of_neighbours h = record { pairs = go } where
    go : (i j : ℕ) → i < j → j < n → cmp (row i) (row j) ≡ Less
    go i zero l m = absurd (omega arith)
    go i (suc j) l m =
        let last : cmp (row j) (row (suc j)) ≡ Less = rw add-one at (h j (omega arith)) in
        ⊎_elim (λ (q : i ≡ j). rw q last) (λ q. less_trans _ _ _ (go i j q (omega arith)) last) (eq-or-lt_of_le (le_of_suc-le-suc l))
