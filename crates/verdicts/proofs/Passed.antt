-- What is known where nothing is refused: no cause is there.
use mathlib.Core.Path.{◌≡◌, refl}
use Prim.Native.Nat.{ℕ, zero, suc, ◌<◌}
use native.Mathlib.Omega.{arith}
use mathlib.Core.Bool.{Bool, true, false, cond, ◌||◌, ◌&&◌}
use mathlib.Core.List.{List, [], ◌∷◌, ◌++◌}
use lib.Dec.{T, ltb, ltb→lt, eqb, eqb→eq}
use lib.Ieee.Fits.{eq→eqb}
use lib.ListN.{get_or, take, drop}
use Rattle.tables.specs.Pools.{Pools}
use Rattle.faults.specs.Fault.{fails_of}
use Rattle.verdicts.specs.Refuse.{Cause, sooner, with_cause, least_of, joined}

-- each cause has a number above zero
abbrev pub numbered : List Cause → Bool
numbered [] = true
numbered (c ∷ cs) = ltb 0 c.0 && numbered cs

-- no cause is there
abbrev pub Clear : Pools → List Cause → Type 0
Clear p [] = Unit {0}
Clear p (c ∷ cs) = (fails_of p c.1 ≡ false) × Clear p cs

clear_left : (p : Pools) (xs ys : List Cause) → Clear p (xs ++ ys) → Clear p xs
clear_left p [] ys h = tt
clear_left p (c ∷ xs) ys h = (h.0, clear_left p xs ys h.1)

clear_right : (p : Pools) (xs ys : List Cause) → Clear p (xs ++ ys) → Clear p ys
clear_right p [] ys h = h
clear_right p (c ∷ xs) ys h = clear_right p xs ys h.1

-- nor from cause k on, nor in the n from there on
pub clear_drop : (p : Pools) (cs : List Cause) → Clear p cs → (k : ℕ) → Clear p (drop k cs)
clear_drop p cs h zero = h
clear_drop p [] h (suc k) = tt
clear_drop p (c ∷ cs) h (suc k) = clear_drop p cs h.1 k

clear_take : (p : Pools) (cs : List Cause) → Clear p cs → (n : ℕ) → Clear p (take n cs)
clear_take p cs h zero = tt
clear_take p [] h (suc n) = tt
clear_take p (c ∷ cs) h (suc n) = (h.0, clear_take p cs h.1 n)

pub clear_part : (p : Pools) (cs : List Cause) → Clear p cs → (k n : ℕ) → Clear p (take n (drop k cs))
clear_part p cs h k n = clear_take p (drop k cs) (clear_drop p cs h k) n

-- nor in any of the lists that are joined
pub clear_at : (p : Pools) (xss : List (List Cause)) → Clear p (joined xss) → (i : ℕ) → Clear p (get_or xss i [])
unfolding joined
clear_at p [] h i = tt
clear_at p (xs ∷ xss) h zero = clear_left p xs (joined xss) h
clear_at p (xs ∷ xss) h (suc i) = clear_at p xss (clear_right p xs (joined xss) h) i

-- a refusal that was found stays one
sooner_pos : (best n : ℕ) → 0 < n → sooner best n ≡ 0 → ⊥
sooner_pos best n h e = go (eqb best 0) (ltb n best) (eqb→eq best 0) (λ (z : best ≡ 0). eq→eqb z) e
  where
    go : (z l : Bool) → (T z → best ≡ 0) → (best ≡ 0 → T z) → cond (z || l) n best ≡ 0 → ⊥
    go true l f g q = omega arith
    go false true f g q = omega arith
    go false false f g q = g q

step : (there : Bool) (best n : ℕ) → 0 < n → cond there (sooner best n) best ≡ 0 → (there ≡ false) × (best ≡ 0)
step true best n h e = absurd (sooner_pos best n h e)
step false best n h e = (refl, e)

both : (a b : Bool) → T (a && b) → T a × T b
both true b h = (tt, h)
both false b h = absurd h

module _ (p : Pools) where
  none : (best : ℕ) (cs : List Cause) → T (numbered cs) → least_of p best cs ≡ 0 → (best ≡ 0) × Clear p cs
  unfolding least_of
  none best [] n e = (e, tt)
  none best (c ∷ cs) n e =
      let m = both (ltb 0 c.0) (numbered cs) n in
      let r = none (with_cause p best c) cs m.1 e in
      let s = step (fails_of p c.1) best c.0 (ltb→lt 0 c.0 m.0) r.0 in
      (s.1, (s.0, r.1))

  pub not_refused : (cs : List Cause) → T (numbered cs) → least_of p 0 cs ≡ 0 → Clear p cs
  not_refused cs n e = (none 0 cs n e).1
