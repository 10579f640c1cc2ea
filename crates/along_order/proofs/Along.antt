-- Along a route a larger fraction gives no earlier place. Assumes nothing.
use Rattle.std.specs.Prelude.{Option, Some, None}
use Prim.Native.Nat.{ℕ, suc, ◌-◌, ◌<◌, ◌≤◌}
use native.Mathlib.Omega.{arith}
use mathlib.Core.Path.{◌≡◌, refl, ap, subst}
use mathlib.Core.Logic.{inl, inr}
use mathlib.Core.Bool.{Bool, true, false, true≢false, not, ◌||◌, cond}
use mathlib.Core.List.{List}
use lib.Dec.{T, ltb, ltb→lt, lt→ltb}
use lib.Ieee.{Float, nan, inf, fin, binary64, neg, add, sub, mul, div, lt, eq, le, fits, of_int}
use lib.Ieee.Fits.{mul-fits}
use lib.Ieee.Scale.{finite}
use Rattle.floats.specs.Number.{nought, one}
use Rattle.floats.proofs.Order.{number, le-number_left, le-number_right, refl_le, trans_le, lt-le, not_le-lt, lt_not_le, le-finite}
use Rattle.floats.proofs.Products.{mul-number, mul_mono_right, mul_nonneg, mul-le}
use Rattle.floats.proofs.Sums.{one_less_pos}
use Rattle.floats.proofs.Within.{within_finite}
use Rattle.ieee.specs.Number.{clamp01_of}
use Rattle.lengths.specs.declared.line.Point.{Point}
use Rattle.line_parts.specs.Part.{stretches, length_from, part_length}
use Rattle.first_stretch.specs.Search.{first_met, stretch_at}
use Rattle.ways.specs.Way.{turned_of}
use Rattle.line_parts.specs.declared.part.Part.{Part}
use Rattle.stretches.specs.declared.spot.Spot.{Spot}
use Rattle.stretches.specs.declared.spot.Spot.TheVariants.{First, Straight, NoStretch}
use Rattle.ways.specs.declared.way.Way.{Way}
use Rattle.ways.specs.declared.way.Way.TheVariants.{With, Against}
use Rattle.routes.specs.Route.{nano, route_of, inside_of, along_of}
use Rattle.routes.specs.declared.route.Route.{Route}
use Rattle.nearest.specs.Nearest.{nearest_of}
use Rattle.polylines.specs.Polyline.{spot_along}
use Rattle.stop_routes.specs.Routed.{roundabout, routed_of, route_between}
use Rattle.stop_routes.specs.declared.between.Routed.{Routed}
use Rattle.along_order.specs.Order.{rank_of, NoEarlier}
use Rattle.along_order.specs.Granted.{Lengths}
use Rattle.along_order.proofs.Clamp.{zero_zero, clamp_above, clamp_mono, Aim}
use Rattle.along_order.proofs.Search.{Before, from, upto, search_mono, meets_some}
use Rattle.along_order.proofs.Sums.{held, sign, rising, sum_within}
use Rattle.along_order.proofs.Turned.{sails}

nano_sign : T (le nought nano)
unfolding nano div of_int le lt eq
nano_sign = tt

-- a fraction between 0 and 1
pub record Share (f : Float) : Type 0 where
  pub low : T (le nought f)
  pub high : T (le f one)

-- between 0 and 1 it is past the bare first vertex
inside_from : (line : List Point) (part : Part) → part.first < part.last → (f : Float) → part.first < rank_of part (inside_of line (route_of line part) f)
unfolding inside_of route_of stretch_at
inside_from line part stretched f = go (lt (part_length line part) one) (mul binary64 (part_length line part) f)
  where
    go : (b : Bool) (t : Float) → part.first < rank_of part (cond b (Straight f) (first_met (length_from line part.first) part.first nano t 0 (stretches part)))
    go true t = omega arith
    go false t = omega (arith, from part (length_from line part.first) nano nano_sign t (stretches part) 0 (omega arith))

module _ (line : List Point) (part : Part) (granted : Lengths line part) (few : stretches part ≤ 4194304) (stretched : part.first < part.last) where
  abbrev total : Float
  total = part_length line part

  total_finite : T (finite total)
  unfolding part_length
  total_finite = within_finite (sum_within line part granted (stretches part) (omega arith) few)

  total_sign : T (le nought total)
  unfolding part_length
  total_sign = sign line part granted (stretches part) (omega arith)

  total_held : T (fits binary64 total)
  unfolding part_length
  total_held = held line part granted (stretches part)

  -- ---- the target at a fraction between 0 and 1

  share_number : (f : Float) → Share f → T (number (mul binary64 total f))
  share_number f s = mul-number binary64 total f total_finite (le-finite f one s.low s.high tt)

  share_sign : (f : Float) → Share f → T (le nought (mul binary64 total f))
  share_sign f s = mul_nonneg binary64 total f total_sign s.low (share_number f s)

  aim : (f : Float) → Share f → Aim (mul binary64 total f)
  aim f s = record {
    bound = le-finite (mul binary64 total f) total (share_sign f s) (mul-le binary64 total f total_held total_sign s.low s.high (share_number f s)) total_finite;
    held = mul-fits binary64 total f;
  }

  inside_mono : (f g : Float) → Share f → Share g → T (le f g) → Before part (inside_of line (route_of line part) f) (inside_of line (route_of line part) g)
  unfolding inside_of route_of stretch_at
  inside_mono f g s t h = go (lt (part_length line part) one)
    where
      go : (b : Bool) → Before part
          (cond b (Straight f) (first_met (length_from line part.first) part.first nano (mul binary64 (part_length line part) f) 0 (stretches part)))
          (cond b (Straight g) (first_met (length_from line part.first) part.first nano (mul binary64 (part_length line part) g) 0 (stretches part)))
      go true = inr (refl, h)
      go false =
          search_mono part (length_from line part.first) nano nano_sign (stretches part) (rising line part granted) (mul binary64 total f) (mul binary64 total g) (aim f s) (aim g t)
          (mul_mono_right binary64 total f g total_sign (share_number f s) (share_number g t) h) (stretches part) 0 (omega arith) (omega arith) (unfold length_from in share_sign f s)

  -- between 0 and 1 it is on a stretch
  pub inside_meets : (f : Float) → Share f → inside_of line (route_of line part) f ≡ NoStretch → ⊥
  unfolding inside_of route_of stretch_at
  inside_meets f s = go (lt (part_length line part) one)
    where
      some : first_met (length_from line part.first) part.first nano (mul binary64 (part_length line part) f) 0 (suc (stretches part - 1)) ≡ NoStretch → ⊥
      some =
          meets_some part (length_from line part.first) nano nano_sign (stretches part) (rising line part granted) (mul binary64 total f) (mul binary64 total f) (aim f s) (aim f s)
          (refl_le (mul binary64 total f) (share_number f s)) (stretches part - 1) 0 (omega arith) (unfold length_from in share_sign f s)
          (unfold part_length in mul-le binary64 total f total_held total_sign s.low s.high (share_number f s))

      go : (b : Bool) → cond b (Straight f) (first_met (length_from line part.first) part.first nano (mul binary64 (part_length line part) f) 0 (stretches part)) ≡ NoStretch → ⊥
      go true e = absurd (true≢false (cc))
      go false e = let q : stretches part ≡ suc (stretches part - 1) = omega arith in some (rw q at e)

  inside_upto : (f : Float) → Before part (inside_of line (route_of line part) f) NoStretch
  unfolding inside_of route_of stretch_at
  inside_upto f = go (lt (part_length line part) one) (mul binary64 (part_length line part) f)
    where
      go : (b : Bool) (t : Float) → Before part (cond b (Straight f) (first_met (length_from line part.first) part.first nano t 0 (stretches part))) NoStretch
      go true t = inl (omega arith)
      go false t = upto part (length_from line part.first) nano nano_sign t (stretches part) 0 (omega arith)

-- in the order of the vertices
pub along_mono : (line : List Point) (part : Part) → Lengths line part → stretches part ≤ 4194304 → (f g : Float) → T (le f g) →
    Before part (along_of line (route_of line part) f) (along_of line (route_of line part) g)
unfolding along_of route_of
along_mono line part granted few f g h = go (ltb part.first part.last) (ltb→lt part.first part.last)
  where
    inside : Float → Spot
    inside x = inside_of line (record { part = part; total = part_length line part }) x

    share : (x : Float) → T (number x) → T (not (le x nought)) → T (not (le one x)) → Share x
    share x n a b = record { low = lt-le nought x (not_le-lt x nought n tt a); high = lt-le x one (not_le-lt one x tt n b) }

    ends : part.first < part.last → (a b c d : Bool) → (T c → T a) → (T b → T d) → (T (not a) → T (not b) → T (not c) → T (not d) → Before part (inside f) (inside g)) →
        Before part (cond a First (cond b NoStretch (inside f))) (cond c First (cond d NoStretch (inside g)))
    ends s true b true d p q r = inr (refl, zero_zero)
    ends s true b false true p q r = inl (omega arith)
    ends s true b false false p q r = inl (unfold route_of in inside_from line part s g)
    ends s false b true d p q r = absurd (p tt)
    ends s false true false true p q r = inr (refl, zero_zero)
    ends s false true false false p q r = absurd (q tt)
    ends s false false false true p q r = unfold route_of in inside_upto line part granted few s f
    ends s false false false false p q r = r tt tt tt tt

    go : (s : Bool) → (T s → part.first < part.last) →
        Before part (cond s (cond (le f nought) First (cond (le one f) NoStretch (inside f))) First) (cond s (cond (le g nought) First (cond (le one g) NoStretch (inside g))) First)
    go true s =
        ends (s tt) (le f nought) (le one f) (le g nought) (le one g) (trans_le f g nought h) (λ x. trans_le one f g x h)
        (λ a b c d. unfold route_of in inside_mono line part granted few (s tt) f g (share f (le-number_left f g h) a b) (share g (le-number_right f g h) c d) h)
    go false s = inr (refl, zero_zero)

-- along a part that is sailed in the order of its vertices, as a chain of stops is
pub never_earlier_on_line : (line : List Point) (part : Part) → Lengths line part → stretches part ≤ 4194304 → (f g : Float) → T (le f g) →
    NoEarlier part With (along_of line (route_of line part) f) (along_of line (route_of line part) g)
never_earlier_on_line line part granted few f g h = along_mono line part granted few f g h

-- along one that is sailed either way
pub never_earlier_along : (line : List Point) (part : Part) (way : Way) → Lengths line part → stretches part ≤ 4194304 → (f g : Float) → T (le f g) →
    NoEarlier part way (spot_along line (route_of line part) way f) (spot_along line (route_of line part) way g)
unfolding spot_along
never_earlier_along line part way granted few f g h =
    sails part way (λ x. along_of line (route_of line part) (clamp01_of x)) (λ x y k. along_mono line part granted few (clamp01_of x) (clamp01_of y) (clamp_mono x y k)) f g h

-- ---- strictly between 0 and 1, and at NaN, it is never the bare first vertex, either way

-- neither 0 or less nor 1 or more: a fraction strictly between them, or NaN
pub record Inside (f : Float) : Type 0 where
  pub held : T (fits binary64 f)
  pub above : T (not (le f nought))
  pub below : T (not (le one f))

not_it : (b : Bool) → T (not b) → T b → ⊥
not_it true h k = h
not_it false h k = k

turned_above : (way : Way) (f : Float) → Inside f → T (le (turned_of way f) nought) → ⊥
turned_above With f i k = not_it (le f nought) i.above k
turned_above Against nan i k = unfold sub add neg le lt eq in k
turned_above Against (inf s) i k =
    lt_not_le nought (sub binary64 one (inf s)) (one_less_pos binary64 (inf s) i.held (not_le-lt one (inf s) tt tt i.below)) k
turned_above Against (fin s m e) i k =
    lt_not_le nought (sub binary64 one (fin s m e)) (one_less_pos binary64 (fin s m e) i.held (not_le-lt one (fin s m e) tt tt i.below)) k

pub inside_above : (way : Way) (f : Float) → Inside f → T (le (clamp01_of (turned_of way f)) nought) → ⊥
inside_above way f i = clamp_above (turned_of way f) (turned_above way f i)

pub never_first : (line : List Point) (part : Part) (way : Way) → part.first < part.last → (f : Float) → Inside f → spot_along line (route_of line part) way f ≡ First → ⊥
unfolding spot_along along_of route_of
never_first line part way s f i =
    let x = clamp01_of (turned_of way f) in
    go (ltb part.first part.last) (le x nought) (le one x) (lt→ltb part.first part.last s) (inside_above way f i)
  where
    inside : Spot
    inside = inside_of line (record { part = part; total = part_length line part }) (clamp01_of (turned_of way f))

    past_first : part.first < rank_of part inside
    past_first = unfold route_of in inside_from line part s (clamp01_of (turned_of way f))

    go : (p q r : Bool) → T p → (T q → ⊥) → cond p (cond q First (cond r NoStretch inside)) First ≡ First → ⊥
    go true true r t h e = absurd (h tt)
    go true false true t h e = absurd (true≢false (cc))
    go true false false t h e = let k : rank_of part inside ≡ part.first = ap (rank_of part) e in omega (arith, past_first)
    go false q r t h e = absurd t

-- ---- the route between two stops

abbrev Walks : List Point → Route → Way → Type 0
Walks line route way = Lengths line route.part → stretches route.part ≤ 4194304 → (f g : Float) → T (le f g) →
    NoEarlier route.part way (spot_along line route way f) (spot_along line route way g)

abbrev Goes : List Point → Option Routed → Type 0
Goes line r = (route : Route) (way : Way) → r ≡ Some (record { route = route; way = way }) → Walks line route way

whole_walks : (line : List Point) (part : Part) (way : Way) → Walks line (route_of line part) way
unfolding route_of
whole_walks line part way granted few f g h = unfold route_of in never_earlier_along line part way granted few f g h

routed_goes : (line : List Point) (part : Part) (way : Way) (prev next : Point) → Goes line (routed_of line part way prev next)
unfolding routed_of
routed_goes line part way prev next = go (lt (route_of line part).total one || roundabout (route_of line part).total prev next)
  where
    the : Routed
    the = record { route = route_of line part; way = way }

    go : (b : Bool) → Goes line (cond b None (Some the))
    go true route w e = absurd (true≢false (cc))
    go false route w e = let q : the ≡ record { route = route; way = w } = cc in subst (λ (r : Routed). Walks line r.route r.way) q (whole_walks line part way)

pub never_earlier_polyline : (line : List Point) (prev next : Point) → Goes line (route_between line prev next)
unfolding route_between
never_earlier_polyline line prev next = go (ltb i j) (ltb j i)
  where
    i : ℕ
    i = nearest_of line prev

    j : ℕ
    j = nearest_of line next

    go : (x y : Bool) → Goes line (cond x (routed_of line (record { first = i; last = j }) With prev next) (cond y (routed_of line (record { first = j; last = i }) Against prev next) None))
    go true y = routed_goes line (record { first = i; last = j }) With prev next
    go false true = routed_goes line (record { first = j; last = i }) Against prev next
    go false false = λ route way e. absurd (true≢false (cc))
