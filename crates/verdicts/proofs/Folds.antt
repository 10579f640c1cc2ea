-- The least refusal over causes: several at a time, and list after list.
use mathlib.Core.Path.{◌≡◌, refl, sym, ap, ◌∙◌}
use Prim.Native.Nat.{ℕ}
use mathlib.Core.List.{List, [], ◌∷◌, ◌++◌}
use Rattle.tables.specs.Pools.{Pools}
use Rattle.verdicts.specs.Refuse.{Cause, with_cause, least_of, joined}

module _ (p : Pools) where
  in_turn : (best : ℕ) (xs ys : List Cause) → least_of p best (xs ++ ys) ≡ least_of p (least_of p best xs) ys
  unfolding least_of
  in_turn best [] ys = refl
  in_turn best (c ∷ xs) ys = in_turn (with_cause p best c) xs ys

  -- that of several causes, as of a column of ids, and that of the causes after them
  several : (best m r : ℕ) (xs cs : List Cause) → m ≡ least_of p best xs → r ≡ least_of p m cs → r ≡ least_of p best (xs ++ cs)
  several best m r xs cs e q = q ∙ ap (λ (z : ℕ). least_of p z cs) e ∙ sym (in_turn best xs cs)

  -- a list's least, and that of the lists after it
  pub then : (best m r : ℕ) (xs : List Cause) (xss : List (List Cause)) → m ≡ least_of p best xs → r ≡ least_of p m (joined xss) → r ≡ least_of p best (joined (xs ∷ xss))
  unfolding joined
  then best m r xs xss e q = several best m r xs (joined xss) e q

  pub over : (r : ℕ) → r ≡ least_of p r (joined [])
  unfolding least_of joined
  over r = refl
