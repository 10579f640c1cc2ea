-- A chain's vertices: the ends' own, and between them what is kept. Assumes nothing.
use Prim.Native.Nat.{ℕ, suc, ◌+◌, ◌-◌, ◌<◌, ◌≤◌}
use native.Mathlib.Omega.{arith}
use mathlib.Core.Path.{◌≡◌, refl, ap, ◌∙◌}
use mathlib.Core.Bool.{Bool, true, false}
use mathlib.Core.List.{List, [], ◌∷◌}
use mathlib.Core.Logic.{◌⊎◌, inl, inr, ⊎_elim}
use lib.Dec.{ltb}
use lib.ListN.{length, length-set, length-reverse, get_or, set}
use lib.Seq.{get_or-set_same, get_or-set_other}
use borrow.Author.Tests.{ltb-true, ltb-false, lt-ltb, le-ltb}
use Rattle.lengths.specs.Line.{nowhere}
use Rattle.lengths.specs.declared.line.Point.{Point}
use Rattle.line_parts.specs.Part.{at}
use Rattle.chain_lines.specs.Thin.{ended, turned_if}

-- fewer than two, or not
pub few_or_more : (n : ℕ) → (n < 2) ⊎ (2 ≤ n)
few_or_more n = go (ltb n 2) (ltb-true n 2) (ltb-false n 2) where
  go : (t : Bool) → (t ≡ true → n < 2) → (t ≡ false → 2 ≤ n) → (n < 2) ⊎ (2 ≤ n)
  go true y f = inl (y refl)
  go false y f = inr (f refl)

module _ (from to : Point) (ps : List Point) where
  abbrev line : List Point
  line = ended from to ps

  few : length ps < 2 → line ≡ from ∷ to ∷ []
  unfolding ended
  few h = rw (lt-ltb (length ps) 2 h)

  more : 2 ≤ length ps → line ≡ set (set ps 0 from) (length ps - 1) to
  unfolding ended
  more h = rw (le-ltb (length ps) 2 h)

  pub few_length : length ps < 2 → length line ≡ 2
  few_length h = ap length (few h)

  pub more_length : 2 ≤ length ps → length line ≡ length ps
  more_length h = ap length (more h) ∙ length-set (set ps 0 from) (length ps - 1) to ∙ length-set ps 0 from

  -- at least two, and at most two more than there are points
  pub two_at_least : 2 ≤ length line
  two_at_least = ⊎_elim (λ h. omega (arith, few_length h)) (λ h. omega (arith, more_length h)) (few_or_more (length ps))

  pub two_more_at_most : length line ≤ length ps + 2
  two_more_at_most = ⊎_elim (λ h. omega (arith, few_length h)) (λ h. omega (arith, more_length h)) (few_or_more (length ps))

  -- the first
  pub first_vertex : at line 0 ≡ from
  first_vertex =
      ⊎_elim (λ h. rw (few h))
      (λ h. rw (more h, get_or-set_other (set ps 0 from) (length ps - 1) 0 to nowhere (λ (e : 0 ≡ length ps - 1). omega arith)) (get_or-set_same ps 0 from nowhere (omega arith)))
      (few_or_more (length ps))

  -- the last
  pub last_vertex : (k : ℕ) → suc k ≡ length line → at line k ≡ to
  last_vertex k e =
      ⊎_elim (λ h. let i : k ≡ 1 = omega (arith, few_length h) in rw (few h, i))
      (λ (h : 2 ≤ length ps).
      let i : k ≡ length ps - 1 = omega (arith, more_length h) in
      let room : length ps - 1 < length (set ps 0 from) = omega (arith, length-set ps 0 from) in
      rw (more h, i) (get_or-set_same (set ps 0 from) (length ps - 1) to nowhere room))
      (few_or_more (length ps))

  -- one between them
  pub inner_vertex : (k : ℕ) → 0 < k → suc k < length line → at line k ≡ get_or ps k nowhere
  inner_vertex k p l =
      ⊎_elim (λ h. absurd (omega (arith, few_length h)))
      (λ h. rw (more h, get_or-set_other (set ps 0 from) (length ps - 1) k to nowhere (λ (e : k ≡ length ps - 1). omega (arith, more_length h))) (get_or-set_other ps 0 k from nowhere (λ (e : k ≡ 0). omega arith)))
      (few_or_more (length ps))

  -- which is one that is kept
  pub inner_kept : (k : ℕ) → 0 < k → suc k < length line → k < length ps
  inner_kept k p l = ⊎_elim (λ h. absurd (omega (arith, few_length h))) (λ h. omega (arith, more_length h)) (few_or_more (length ps))

-- turning leaves as many
pub turned_length : (b : Bool) (ps : List Point) → length (turned_if b ps) ≡ length ps
turned_length true ps = length-reverse ps
turned_length false ps = refl
