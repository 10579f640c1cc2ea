-- What a search for the least distance remembers stays true from vertex to vertex. Assumes nothing.
use Prim.Native.Nat.{ℕ, ◌+◌, ◌-◌, ◌<◌, ◌≤◌}
use native.Mathlib.Omega.{arith}
use native.Mathlib.Nat.{eq-or-lt_of_le}
use mathlib.Core.Path.{◌≡◌, refl, sym, ap, subst, ◌∙◌}
use mathlib.Core.Logic.{⊎_elim}
use mathlib.Core.Bool.{Bool, true, false, cond}
use mathlib.Core.List.{List, foldl}
use lib.Dec.{T}
use lib.Ieee.{Float, inf, binary64, of_int, add, lt, eq, le, fits}
use lib.ListN.{length, drop}
use Rattle.floats.proofs.Order.{number, lt-le, trans_le, not_lt-le, le-number_left}
use Rattle.floats.proofs.Sums.{add-number_right, add_up, add_mono}
use Rattle.ieee.specs.Number.{least_of}
use Rattle.lengths.specs.declared.line.Point.{Point}
use Rattle.vertices_within.specs.Near.{distance_of, distances_of, least_in}
use Rattle.distance_sweep.specs.Nearest.{slack, bound_of, next_of, Seen, Nears}
use Rattle.distance_sweep.specs.declared.nearest.Nearest.{Nearest}
use Rattle.vertices_within.proofs.Truth.{holds, fails}
use Rattle.vertices_within.proofs.Search.{least_over}

-- ---- the next state, by what the two tests say
module _ (near : Nearest) (x : Float) (next : ℕ) (limit : Float) where
  pub next_same : lt x near.best ≡ false → near ≡ next_of near x next limit
  unfolding next_of
  next_same p = rw p

  pub next_kept : lt x near.best ≡ true → le near.mark (add binary64 x slack) ≡ true →
      record { best = x; limit = limit; from = near.from; upto = near.upto; mark = near.mark } ≡ next_of near x next limit
  unfolding next_of
  next_kept p q = rw (p, q)

  pub next_marked : lt x near.best ≡ true → le near.mark (add binary64 x slack) ≡ false →
      record { best = x; limit = limit; from = near.upto; upto = next; mark = x } ≡ next_of near x next limit
  unfolding next_of
  next_marked p q = rw (p, q)

  -- its best is the lesser
  pub next_best : (next_of near x next limit).best ≡ least_of near.best x
  unfolding next_of least_of
  next_best = go (lt x near.best) (le near.mark (add binary64 x slack))
    where
      go : (p q : Bool) →
          (cond p (cond q (record { best = x; limit = limit; from = near.from; upto = near.upto; mark = near.mark }) (record { best = x; limit = limit; from = near.upto; upto = next; mark = x })) near).best
          ≡ cond p x near.best
      go true true = refl
      go true false = refl
      go false q = refl

-- ---- what is seen
pub seen_none : (d : ℕ → Float) (at : ℕ) (limit : Float) → Seen d at at (record { best = inf false; limit = limit; from = at; upto = at; mark = inf false })
seen_none d at limit = record {
  starts = omega arith;
  ordered = omega arith;
  ends = omega arith;
  counts = tt;
  least = λ j a b x h. absurd (omega arith);
  far = λ j a b h. absurd (omega arith);
  lower = λ j a b x h. absurd (omega arith);
  marked = λ a. absurd (omega arith);
}

module _ (d : ℕ → Float) (fit : (j : ℕ) → T (fits binary64 (d j))) (at k : ℕ) (l : at ≤ k) (near : Nearest) (s : Seen d at k near) where
  -- the vertices up to k, and vertex k
  either : (P : ℕ → Type 0) → ((j : ℕ) → at ≤ j → j < k → P j) → P k → (j : ℕ) → at ≤ j → j < k + 1 → P j
  either P f g j a b = ⊎_elim (λ (e : j ≡ k). rw e g) (λ c. f j a c) (eq-or-lt_of_le (le_of j k b))
    where
      le_of : (j k : ℕ) → j < k + 1 → j ≤ k
      le_of j k h = omega arith

  not_least : lt (d k) near.best ≡ false → Seen d at (k + 1) near
  not_least e = record {
    starts = s.starts;
    ordered = s.ordered;
    ends = omega (arith, s.ends);
    counts = s.counts;
    least = either (λ (j : ℕ). (x : Float) → T (le (d j) x) → T (le near.best x)) s.least (λ x h. trans_le near.best (d k) x (not_lt-le (d k) near.best (le-number_left (d k) x h) s.counts (fails e)) h);
    far = s.far;
    lower = s.lower;
    marked = s.marked;
  }

  module _ (h : T (lt (d k) near.best)) where
    less : T (le (d k) near.best)
    less = lt-le (d k) near.best h

    is_number : T (number (d k))
    is_number = le-number_left (d k) near.best less

    sum_number : T (number (add binary64 (d k) slack))
    unfolding of_int
    sum_number = add-number_right binary64 (d k) slack is_number tt

    -- the bound falls
    falls : T (le (add binary64 (d k) slack) (bound_of near))
    unfolding of_int
    falls = add_mono binary64 (d k) near.best slack sum_number (add-number_right binary64 near.best slack s.counts tt) less

    new_least : (j : ℕ) → at ≤ j → j < k + 1 → (x : Float) → T (le (d j) x) → T (le (d k) x)
    new_least = either (λ (j : ℕ). (x : Float) → T (le (d j) x) → T (le (d k) x)) (λ j a b x q. trans_le (d k) near.best x less (s.least j a b x q)) (λ x q. q)

    still_marked : (limit : Float) → T (le near.mark (add binary64 (d k) slack)) →
        Seen d at (k + 1) (record { best = d k; limit = limit; from = near.from; upto = near.upto; mark = near.mark })
    still_marked limit m = record {
      starts = s.starts;
      ordered = s.ordered;
      ends = omega (arith, s.ends);
      counts = is_number;
      least = new_least;
      far = λ j a b q. s.far j a b (trans_le (d j) (add binary64 (d k) slack) (bound_of near) q falls);
      lower = s.lower;
      marked = λ a. ((s.marked a).0, m);
    }

    near_itself : T (le (d k) (add binary64 (d k) slack))
    unfolding of_int
    near_itself = add_up binary64 (d k) slack (fit k) (unfold le lt eq in tt) sum_number

    now_marked : (limit : Float) → le near.mark (add binary64 (d k) slack) ≡ false →
        Seen d at (k + 1) (record { best = d k; limit = limit; from = near.upto; upto = k + 1; mark = d k })
    now_marked limit m = record {
      starts = omega (arith, s.starts, s.ordered);
      ordered = omega (arith, s.ends);
      ends = omega arith;
      counts = is_number;
      least = new_least;
      far = λ j a b q. rw m at (s.lower j a b (add binary64 (d k) slack) q);
      lower = new_least;
      marked = λ a. (ap d (back k), near_itself);
    }
      where
        back : (k : ℕ) → k ≡ k + 1 - 1
        back k = omega arith

  pub seen_next : (limit : Float) → Seen d at (k + 1) (next_of near (d k) (k + 1) limit)
  unfolding next_of
  seen_next limit = go (lt (d k) near.best) refl (le near.mark (add binary64 (d k) slack)) refl
    where
      go : (p : Bool) → lt (d k) near.best ≡ p → (q : Bool) → le near.mark (add binary64 (d k) slack) ≡ q →
          Seen d at (k + 1) (cond p (cond q (record { best = d k; limit = limit; from = near.from; upto = near.upto; mark = near.mark }) (record { best = d k; limit = limit; from = near.upto; upto = k + 1; mark = d k })) near)
      go true p true q = still_marked (holds p) limit (holds q)
      go true p false q = now_marked (holds p) limit q
      go false p q r = not_least p

  -- the state that follows, whatever its limit
  pub seen_by : {x : Float} (r : Nearest) → x ≡ d k → r ≡ next_of near x (k + 1) r.limit → Seen d at (k + 1) r
  seen_by r p e = subst (λ (z : Nearest). Seen d at (k + 1) z) (sym (rw p at e)) (seen_next r.limit)

pub best_by : (x : Float) (near r : Nearest) (next : ℕ) → r ≡ next_of near x next r.limit → r.best ≡ least_of near.best x
best_by x near r next e = ap (λ (z : Nearest). z.best) e ∙ next_best near x next r.limit

-- once no vertex is left
pub all_seen : (stop : Point) (line : List Point) (at k : ℕ) (near : Nearest) → at ≤ k → k - at ≤ length line - at → length line ≤ k →
    Seen (distance_of stop line) at k near → least_in (distances_of stop (drop at line)) ≡ foldl least_of near.best (distances_of stop (drop k line)) → Nears stop line at near
all_seen stop line at k near a b h s e =
    let q : at + (length line - at) ≡ k = omega arith in
    record { best = sym (e ∙ least_over stop line near.best k h); seen = rw q s }
