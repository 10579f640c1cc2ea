-- Parts of pools, cut where the pool ends. Of any elements.
use Prim.Native.Nat.{ℕ, ◌<◌, ◌≤◌, ◌+◌, ◌-◌}
use native.Mathlib.Omega.{arith}
use mathlib.Core.Path.{◌≡◌, sym, ap, ◌∙◌}
use mathlib.Core.List.{List, []}
use lib.ListN.{length, take, drop, drop_of_length-le, length-drop}
use lib.Seq.{take_all, take-nil}
use Rattle.ids.specs.declared.pool.IdColumn.{IdColumn}
use Rattle.ids.specs.Pool.{cell_of, id_of}

pub rest : {A : Type 0} (s : List A) (a : ℕ) → take (length s - a) (drop a s) ≡ drop a s
rest s a = take_all (length s - a) (drop a s) (omega (arith, length-drop a s))

module _ {A : Type 0} (s : List A) (a n : ℕ) where
  pub past : length s < a → [] ≡ take n (drop a s)
  past l = let h : length s ≤ a = omega arith in sym (ap (take n) (drop_of_length-le s h) ∙ take-nil n)

  pub cut : length s - a < n → take (length s - a) (drop a s) ≡ take n (drop a s)
  cut l = rest s a ∙ sym (take_all n (drop a s) (omega (arith, length-drop a s)))

  pub whole : take (a + n - a) (drop a s) ≡ take n (drop a s)
  whole = let e : a + n - a ≡ n = omega arith in ap (λ (k : ℕ). take k (drop a s)) e

pub id_is : (bytes words : List ℕ) (col : IdColumn) (k a n : ℕ) → a ≡ cell_of words col.starts k → n ≡ cell_of words col.lens k → take n (drop a bytes) ≡ id_of bytes words col k
unfolding id_of
id_is bytes words col k a n p q = rw (p, q)
