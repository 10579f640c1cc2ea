-- Bits of words, set in order from the lowest on: what a word has of those before, and the marks of the rows so far. Assumes nothing.
use Prim.Native.Nat.{ℕ, suc, ◌+◌, ◌-◌, ◌*◌, ◌/◌, ◌%◌, ◌^◌, ◌<◌}
use native.Mathlib.Omega.{arith}
use native.Mathlib.Nat.{add-mul-div_left, add-mul-mod_self_left, div-eq_of_lt, eq-or-lt_of_le, le_of_suc-le-suc, lt_of_lt_of_le, pow-succ'}
use mathlib.Core.Path.{◌≡◌, refl, sym, ◌∙◌}
use mathlib.Core.Bool.{Bool, true, false}
use mathlib.Core.List.{List}
use mathlib.Core.Logic.{◌⊎◌, inl, inr, ⊎_elim}
use lib.Dec.{eqb}
use lib.ListN.{length, length-set, get_or, set}
use lib.Pow.{pow-add, pow_mono, pow_pos, high}
use lib.Seq.{get_or-set_same, get_or-set_other}
use borrow.Author.Tests.{eqb-true, eqb-false}
use Rattle.chain_vertices.specs.Marks.{is_marked, put_of}

-- the bit k that is set of a word with none from k on, the bits below it, and the bit k that is not set
module _ (w k : ℕ) where
  set_here : w < 2 ^ k → (w + 2 ^ k) / 2 ^ k % 2 ≡ 1
  set_here h = let e : w + 2 ^ k ≡ 1 * 2 ^ k + w = omega arith in rw (e, high 1 k h)

  set_above : (d : ℕ) → (w + 2 ^ (k + suc d)) / 2 ^ k % 2 ≡ w / 2 ^ k % 2
  set_above d =
      let e : 2 ^ (k + suc d) ≡ 2 ^ k * (2 * 2 ^ d) = pow-add 2 k (suc d) ∙ rw (pow-succ' 2 d) in
      rw (e, add-mul-div_left w (2 * 2 ^ d) (pow_pos k)) (add-mul-mod_self_left (w / 2 ^ k) 2 (2 ^ d))

  not_set : w < 2 ^ k → w / 2 ^ k % 2 ≡ 0
  not_set h = rw (div-eq_of_lt h)

-- two numbers are equal or not
equal_or_not : (a b : ℕ) → (a ≡ b) ⊎ (a ≡ b → ⊥)
equal_or_not a b = go (eqb a b) (eqb-true a b) (eqb-false a b) where
  go : (t : Bool) → (t ≡ true → a ≡ b) → (t ≡ false → a ≡ b → ⊥) → (a ≡ b) ⊎ (a ≡ b → ⊥)
  go true y n = inl (y refl)
  go false y n = inr (n refl)

-- the marks of the first i rows, in n words: no bit is set from i on
pub record Begun (kept : ℕ → Bool) (n : ℕ) (marks : List ℕ) (i : ℕ) : Type 0 where
  pub long : length marks ≡ n
  pub small : (w : ℕ) → get_or marks w 0 < 2 ^ (i - 64 * w)
  pub right : (j : ℕ) → j < i → is_marked marks j ≡ kept j

module _ (kept : ℕ → Bool) (n : ℕ) where
  pub begins : (marks : List ℕ) → length marks ≡ n → ((w : ℕ) → get_or marks w 0 ≡ 0) → Begun kept n marks 0
  begins marks l z = record {
    long = l;
    small = λ w. omega (arith, z w, pow_pos (0 - 64 * w));
    right = λ j h. absurd (omega arith);
  }

  module _ (marks : List ℕ) (i : ℕ) (b : Begun kept n marks i) where
    -- the word of bit i
    abbrev word : ℕ
    word = get_or marks (i / 64) 0

    pub low : word < 2 ^ (i % 64)
    low = let e : i - 64 * (i / 64) ≡ i % 64 = omega arith in rw e at (b.small (i / 64))

    -- it stays below the next bit, set or not
    stays_low : word + 2 ^ (i % 64) < 2 ^ (suc i - 64 * (i / 64))
    stays_low = let e : suc i - 64 * (i / 64) ≡ suc (i % 64) = omega arith in rw e (omega (arith, low, pow-succ' 2 (i % 64)))

    wider : (w : ℕ) → get_or marks w 0 < 2 ^ (suc i - 64 * w)
    wider w = lt_of_lt_of_le (b.small w) (pow_mono (omega arith))

    not_yet : is_marked marks i ≡ false
    unfolding is_marked
    not_yet = rw (not_set word (i % 64) low)

    -- bit i is not set
    passes : kept i ≡ false → Begun kept n marks (suc i)
    passes e = record {
      long = b.long;
      small = wider;
      right = λ j h. ⊎_elim (λ (q : j ≡ i). rw q (not_yet ∙ sym e)) (λ m. b.right j m) (eq-or-lt_of_le (le_of_suc-le-suc h));
    }

    abbrev next : List ℕ
    next = set marks (i / 64) (word + 2 ^ (i % 64))

    module _ (room : i / 64 < n) where
      within : i / 64 < length marks
      within = omega (arith, b.long)

      next_small : (w : ℕ) → get_or next w 0 < 2 ^ (suc i - 64 * w)
      next_small w =
          ⊎_elim (λ (q : w ≡ i / 64). rw (q, get_or-set_same marks (i / 64) (word + 2 ^ (i % 64)) 0 within) stays_low)
          (λ ne. rw (get_or-set_other marks (i / 64) w (word + 2 ^ (i % 64)) 0 ne) (wider w)) (equal_or_not w (i / 64))

      now_set : is_marked next i ≡ true
      unfolding is_marked
      now_set = rw (get_or-set_same marks (i / 64) (word + 2 ^ (i % 64)) 0 within, set_here word (i % 64) low)

      -- the bits before it stay: of the same word, and of others
      same_word : (j : ℕ) → j < i → j / 64 ≡ i / 64 → is_marked next j ≡ is_marked marks j
      unfolding is_marked
      same_word j h q =
          let e : i % 64 ≡ j % 64 + suc (i % 64 - suc (j % 64)) = omega arith in
          rw (q, get_or-set_same marks (i / 64) (word + 2 ^ (i % 64)) 0 within, e, set_above word (j % 64) (i % 64 - suc (j % 64)))

      other_word : (j : ℕ) → (j / 64 ≡ i / 64 → ⊥) → is_marked next j ≡ is_marked marks j
      unfolding is_marked
      other_word j ne = rw (get_or-set_other marks (i / 64) (j / 64) (word + 2 ^ (i % 64)) 0 ne)

      -- bit i is set
      sets : kept i ≡ true → Begun kept n next (suc i)
      sets e = record {
        long = length-set marks (i / 64) (word + 2 ^ (i % 64)) ∙ b.long;
        small = next_small;
        right = λ j h. ⊎_elim (λ (q : j ≡ i). rw q (now_set ∙ sym e))
            (λ m. ⊎_elim (same_word j m) (other_word j) (equal_or_not (j / 64) (i / 64)) ∙ b.right j m) (eq-or-lt_of_le (le_of_suc-le-suc h));
      }

      -- bit i is as it is to be
      pub goes_on : (t : Bool) → t ≡ kept i → Begun kept n (put_of marks i t) (suc i)
      goes_on true e = sets (sym e)
      goes_on false e = passes (sym e)
