-- `questions::line::line_end` meets its contract. A newline that is found lies in the text.
use Rattle.std.specs.Prelude.{Some, None}
use native.Mathlib.Omega.{arith}
use Prim.Native.Nat.{ℕ, ◌+◌, ◌-◌, ◌≤◌, ◌<◌}
use mathlib.Core.Path.{◌≡◌, sym, ap, ◌∙◌}
use mathlib.Core.List.{List}
use lib.ListN.{length, take, drop, length-drop}
use Rattle.ids.specs.First.{or_at}
use Rattle.ids.proofs.Pools.{rest}
use Rattle.text_runs.specs.Runs.{first_byte}
use Rattle.text_runs.proofs.Runs.{first_byte_fits}
use Rattle.questions.specs.Lines.{line_end}
use Rattle.questions.proofs.line.line_end.Goals as goal

-- What is found in the rest of a text is the end of its first line.
module _ (s : List ℕ) (at : ℕ) where
  found_at : (k : ℕ) → first_byte (take (length s - at) (drop at s)) 10 ≡ Some k → (k < length s - at) × (at + k ≡ line_end s at)
  unfolding line_end
  found_at k e =
      let f : first_byte (drop at s) 10 ≡ Some k = ap (λ (t : List ℕ). first_byte t 10) (sym (rest s at)) ∙ e in
      (omega (arith, (first_byte_fits (drop at s) 10 k f).0, length-drop at s), sym (ap (λ r. at + or_at (length (drop at s)) r) f))

  found_none : at ≤ length s → first_byte (take (length s - at) (drop at s)) 10 ≡ None → length s ≡ line_end s at
  unfolding line_end
  found_none l e =
      let f : first_byte (drop at s) 10 ≡ None = ap (λ (t : List ℕ). first_byte t 10) (sym (rest s at)) ∙ e in
      let n : length s ≡ at + length (drop at s) = omega (arith, length-drop at s) in
      n ∙ sym (ap (λ r. at + or_at (length (drop at s)) r) f)

pub overflow_add-result : goal.overflow_add-result
overflow_add-result c =
    let a = c.args in
    omega (arith, (found_at a.text.now a.at c.in-Some.k (sym c.first_of.ensures ∙ c.in-Some.is)).0)

pub returns-in-Some : goal.returns-in-Some
returns-in-Some c =
    let a = c.args in
    let h = found_at a.text.now a.at c.in-Some.k (sym c.first_of.ensures ∙ c.in-Some.is) in record { value = h.1; lower_bound = (omega arith, omega (arith, h.0)) }

pub returns-in-None : goal.returns-in-None
returns-in-None c =
    let a = c.args in record { value = found_none a.text.now a.at (omega arith) (sym c.first_of.ensures ∙ c.in-None.is); lower_bound = (omega arith, omega arith) }
