-- Strictly between a leg's ends, and at NaN, a walk along a part is on a stretch of it or on none, or on the one straight stretch of a chain. Assumes nothing.
use Prim.Native.Nat.{ℕ, zero, suc, ◌+◌, ◌<◌, ◌≤◌}
use native.Mathlib.Omega.{arith}
use mathlib.Core.Path.{◌≡◌, refl}
use mathlib.Core.Logic.{◌⊎◌, inl, inr}
use mathlib.Core.Bool.{Bool, true, false, not, cond}
use mathlib.Core.List.{List}
use lib.Dec.{T, ltb, lt→ltb}
use lib.Ieee.{Float, binary64, mul, lt, le}
use Rattle.floats.specs.Number.{nought, one}
use Rattle.ieee.specs.Number.{clamp01_of}
use Rattle.lengths.specs.declared.line.Point.{Point}
use Rattle.line_parts.specs.Part.{stretches, length_from, part_length, whole_of}
use Rattle.first_stretch.specs.Search.{micro, meets, fraction_of, first_met, stretch_at}
use Rattle.ways.specs.Way.{turned_of}
use Rattle.line_parts.specs.declared.part.Part.{Part}
use Rattle.stretches.specs.declared.spot.Spot.{Spot}
use Rattle.stretches.specs.declared.spot.Spot.TheVariants.{First, Stretch, Straight, NoStretch}
use Rattle.ways.specs.declared.way.Way.{Way}
use Rattle.spans.specs.Span.{target_of}
use Rattle.by_distance.specs.Interpolate.{spot_over}
use Rattle.spans.specs.declared.span.Span.{Span}
use Rattle.routes.specs.Route.{nano, route_of, inside_of, along_of}
use Rattle.polylines.specs.Polyline.{spot_along}
use Rattle.along_order.proofs.Along.{Inside, inside_above}

-- on a stretch of the part, or on none
abbrev pub OnPart : Part → Spot → Type 0
OnPart part First = ⊥
OnPart part (Stretch k t) = (part.first ≤ k) × (k < part.last)
OnPart part (Straight t) = ⊥
OnPart part NoStretch = Unit {0}

met_on_part : (part : Part) (sums : ℕ → Float) (tolerance u : Float) (m j : ℕ) → part.first + (j + m) ≤ part.last → OnPart part (first_met sums part.first tolerance u j m)
unfolding first_met
met_on_part part sums tolerance u zero j h = tt
met_on_part part sums tolerance u (suc m) j h = go (meets tolerance u (sums j) (sums (suc j))) (met_on_part part sums tolerance u m (suc j) (omega arith))
  where
    go : (b : Bool) → OnPart part (first_met sums part.first tolerance u (suc j) m) →
        OnPart part (cond b (Stretch (part.first + j) (fraction_of u (sums j) (sums (suc j)))) (first_met sums part.first tolerance u (suc j) m))
    go true k = (omega arith, omega arith)
    go false k = k

search_on_part : (line : List Point) (part : Part) (tolerance target : Float) → part.first ≤ part.last → OnPart part (stretch_at line part tolerance target)
unfolding stretch_at
search_on_part line part tolerance target h = met_on_part part (length_from line part.first) tolerance target (stretches part) 0 (omega arith)

-- by distance
pub over_on_part : (line : List Point) (span : Span) (f : Float) → OnPart (whole_of line) (spot_over line span f)
unfolding spot_over
over_on_part line span f = search_on_part line (whole_of line) micro (target_of span f) (omega arith)

-- in the order of the vertices, where it is not under a metre
along_on_part : (line : List Point) (part : Part) → part.first < part.last → T (not (lt (part_length line part) one)) → (x : Float) → (T (le x nought) → ⊥) →
    OnPart part (along_of line (route_of line part) x)
unfolding along_of inside_of route_of
along_on_part line part s long x above =
    go (ltb part.first part.last) (le x nought) (le one x) (lt (part_length line part) one) (lt→ltb part.first part.last s) above long
    (search_on_part line part nano (mul binary64 (part_length line part) x) (omega arith))
  where
    go : (a b c d : Bool) → T a → (T b → ⊥) → T (not d) → OnPart part (stretch_at line part nano (mul binary64 (part_length line part) x)) →
        OnPart part (cond a (cond b First (cond c NoStretch (cond d (Straight x) (stretch_at line part nano (mul binary64 (part_length line part) x))))) First)
    go true true c d t h l k = absurd (h tt)
    go true false true d t h l k = tt
    go true false false true t h l k = absurd l
    go true false false false t h l k = k
    go false b c d t h l k = absurd t

-- either way
pub sailed_on_part : (line : List Point) (part : Part) (way : Way) → part.first < part.last → T (not (lt (part_length line part) one)) → (f : Float) → Inside f →
    OnPart part (spot_along line (route_of line part) way f)
unfolding spot_along
sailed_on_part line part way s long f i = along_on_part line part s long (clamp01_of (turned_of way f)) (inside_above way f i)

not_it : (b : Bool) → T (not b) → T b → ⊥
not_it true h k = h
not_it false h k = k

-- under a metre in all it is one straight stretch
along_straight : (line : List Point) (part : Part) → part.first < part.last → lt (part_length line part) one ≡ true → (f : Float) → Inside f → along_of line (route_of line part) f ≡ Straight f
unfolding along_of inside_of route_of
along_straight line part s under f i = rw under (go (ltb part.first part.last) (le f nought) (le one f) (lt→ltb part.first part.last s) i.above i.below)
  where
    go : (a b c : Bool) → T a → T (not b) → T (not c) → cond a (cond b First (cond c NoStretch (Straight f))) First ≡ Straight f
    go true true c t h k = absurd h
    go true false true t h k = absurd k
    go true false false t h k = refl
    go false b c t h k = absurd t

-- A chain is one straight stretch at every fraction, or at none.
pub chain_on_part : (line : List Point) (part : Part) → part.first < part.last →
    ((f : Float) → Inside f → along_of line (route_of line part) f ≡ Straight f) ⊎ ((f : Float) → Inside f → OnPart part (along_of line (route_of line part) f))
chain_on_part line part s = pick (lt (part_length line part) one) refl
  where
    pick : (b : Bool) → lt (part_length line part) one ≡ b →
        ((f : Float) → Inside f → along_of line (route_of line part) f ≡ Straight f) ⊎ ((f : Float) → Inside f → OnPart part (along_of line (route_of line part) f))
    pick true e = inl (λ f i. along_straight line part s e f i)
    pick false e = inr (λ f i. along_on_part line part s (rw e tt) f (not_it (le f nought) i.above))
