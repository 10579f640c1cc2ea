-- An answer where nothing is refused, and a refusal. Assumes nothing.
use Prim.Native.Nat.{ℕ, ◌<◌, ◌≤◌}
use native.Mathlib.Omega.{arith}
use mathlib.Core.Path.{◌≡◌, refl, ap, ◌∙◌}
use mathlib.Core.List.{List, ◌++◌}
use borrow.Author.Tests.{eq-eqb, ne_eqb, lt-ltb, le-ltb}
use lib.ListN.{length, drop}
use Rattle.std.specs.Prelude.{Result, Ok, Err}
use Rattle.std.specs.Result.{IsErrAnd}
use Rattle.refusals.specs.declared.refusal.Refusal.{Refusal}
use Rattle.refusals.specs.declared.refusal.Refusal.TheVariants.{Columns, Count, Position, Order, Index, Moment, Text, Number, Room, Date}
use Rattle.refusals.specs.Refusal.{refusal_number}
use Rattle.refusals.specs.Answer.{Answer, refused, given, answer_of}
use Rattle.answers.specs.Answers.{unless_refused, or_short, unless_kept}

-- a refusal's number is not 0
pub numbered : (r : Refusal) → refusal_number r ≡ 0 → ⊥
numbered Columns e = omega arith
numbered Count e = omega arith
numbered Position e = omega arith
numbered Order e = omega arith
numbered Index e = omega arith
numbered Moment e = omega arith
numbered Text e = omega arith
numbered Number e = omega arith
numbered Room e = omega arith
numbered Date e = omega arith

module _ {A : Type 0} (n : ℕ) (x : A) where
  pub told : n ≡ 0 → given x ≡ unless_refused n x
  told e = rw (eq-eqb _ _ e)

  pub denied : (n ≡ 0 → ⊥) → refused n ≡ unless_refused n x
  denied h = rw (ne_eqb _ _ h)

  -- of a check, of which n is the number
  pub refused_by : (r : Refusal) → refusal_number r ≡ n → refused (refusal_number r) ≡ unless_refused n x
  refused_by r e = ap refused e ∙ denied (λ z. numbered r (e ∙ z))

module _ {A : Type 0} where
  -- a refusal that `?` hands on, as the answer
  pub handed : (r : Result A Refusal) (e : Refusal) → IsErrAnd r (λ f. f ≡ e) → answer_of r ≡ refused (refusal_number e)
  handed (Err f) e h = ap (λ g. refused (refusal_number g)) h
  handed (Ok y) e h = absurd h

  -- the same, of a check that the answer begins with: its number is the least refusal's
  pub handed_on : (n : ℕ) (x : A) (r : Result A Refusal) (e : Refusal) → IsErrAnd r (λ f. f ≡ e) → refusal_number e ≡ n → answer_of r ≡ unless_refused n x
  handed_on n x r e h q = handed r e h ∙ refused_by n x e q

module _ (n rows room : ℕ) where
  pub fits : n ≡ 0 → rows ≤ room → or_short n rows room ≡ 0
  fits e h = rw (eq-eqb _ _ e, le-ltb _ _ h)

  pub too_short : n ≡ 0 → room < rows → or_short n rows room ≡ 9
  too_short e h = rw (eq-eqb _ _ e, lt-ltb _ _ h)

  pub refused_first : (n ≡ 0 → ⊥) → or_short n rows room ≡ n
  refused_first h = rw (ne_eqb _ _ h)

module _ {A : Type 0} (n : ℕ) (rows out : List A) where
  pub written : n ≡ 0 → rows ++ drop (length rows) out ≡ unless_kept n rows out
  written e = rw (eq-eqb _ _ e)

  pub kept : (n ≡ 0 → ⊥) → out ≡ unless_kept n rows out
  kept h = rw (ne_eqb _ _ h)
