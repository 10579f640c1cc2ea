-- Which paths can be chosen, and what holds of each. Assumes nothing.
use Rattle.std.specs.Prelude.{Option, Some, None}
use Rattle.unit_scales.specs.declared.metres.Affine.{Affine}
use Prim.Native.Nat.{ℕ, suc, ◌+◌, ◌<◌, ◌≤◌}
use native.Mathlib.Omega.{arith}
use mathlib.Core.Path.{◌≡◌, refl, sym, subst}
use mathlib.Core.Logic.{◌⊎◌, inl, inr}
use mathlib.Core.Bool.{Bool, true, false, true≢false, not, ◌||◌, cond}
use mathlib.Core.List.{List, [], ◌∷◌}
use lib.Dec.{T, ltb, ltb→lt}
use lib.Ieee.{Float, binary64, sub, lt, le}
use lib.ListN.{length}
use Rattle.floats.specs.Number.{one}
use Rattle.ieee.specs.Number.{abs_of}
use Rattle.lengths.specs.declared.line.Point.{Point}
use Rattle.line_parts.specs.Part.{at, stretches, whole_of}
use Rattle.line_parts.specs.declared.part.Part.{Part}
use Rattle.stretches.specs.declared.spot.Spot.TheVariants.{Straight}
use Rattle.ways.specs.declared.way.Way.{Way}
use Rattle.ways.specs.declared.way.Way.TheVariants.{With, Against}
use Rattle.spans.specs.Span.{half, spread, span_of, feed_metres}
use Rattle.spans.specs.declared.span.Span.{Span}
use Rattle.nearest.specs.Nearest.{largest, degrees_of, nearest_from, nearest_of}
use Rattle.routes.specs.Route.{route_of, along_of}
use Rattle.routes.specs.declared.route.Route.{Route}
use Rattle.polylines.specs.Polyline.{spot_along}
use Rattle.stop_routes.specs.Routed.{roundabout, routed_of, route_between}
use Rattle.stop_routes.specs.declared.between.Routed.{Routed}
use Rattle.along_order.specs.Order.{NoEarlier as Spot·noEarlier}
use Rattle.along_order.specs.Granted.{Distance}
use Rattle.along_order.proofs.Along.{Inside, never_earlier_on_line, never_earlier_polyline}
use Rattle.along_order.proofs.ByDistance.{never_earlier_by_distance}
use Rattle.paths.specs.Path.{feed_span, over_span, over_route, over_chain, path_of, path_line, path_part, path_way, spot_of}
use Rattle.leg_order.specs.Granted.{Chained, Granted}
use Rattle.paths.specs.declared.path.Path.{Path}
use Rattle.paths.specs.declared.path.Path.TheVariants.{ByDistance, Polyline, Straight as Path·straight}
use Rattle.leg_order.proofs.Spots.{OnPart, over_on_part, sailed_on_part, chain_on_part}

-- ---- the four kinds

pub data Chosen (shape chain : List Point) (from to : Point) : Path → Type 0 where
  spanned : (d₀ d₁ : Float) (span : Span) → span_of d₀ d₁ ≡ Some span → Chosen shape chain from to (ByDistance span)
  routed : (route : Route) (way : Way) → route_between shape from to ≡ Some (record { route = route; way = way }) → Chosen shape chain from to (Polyline route way)
  chained : Chained from to chain → Chosen shape chain from to (over_chain chain)
  straight : Chosen shape chain from to Path·straight

module _ (shape chain : List Point) (from to : Point) (c : Chained from to chain) where
  over_route_lem : (r : Option Routed) → route_between shape from to ≡ r → Chosen shape chain from to (over_route r (over_chain chain))
  over_route_lem (Some r) e = routed r.route r.way e
  over_route_lem None e = chained c

  over_span_lem : (d₀ d₁ : Float) (s : Option Span) (other : Path) → span_of d₀ d₁ ≡ s → Chosen shape chain from to other → Chosen shape chain from to (over_span s other)
  over_span_lem d₀ d₁ (Some span) other e k = spanned d₀ d₁ span e
  over_span_lem d₀ d₁ None other e k = k

  over_feed : (calibrated : Option Affine) (d₀ d₁ : Option Float) (other : Path) → Chosen shape chain from to other → Chosen shape chain from to (over_span (feed_span calibrated d₀ d₁) other)
  over_feed None d₀ d₁ other k = k
  over_feed (Some c) None d₁ other k = k
  over_feed (Some c) (Some d₀) None other k = k
  over_feed (Some c) (Some d₀) (Some d₁) other k =
      let m₀ = feed_metres c.a c.b d₀ in
      let m₁ = feed_metres c.a c.b d₁ in
      over_span_lem m₀ m₁ (span_of m₀ m₁) other refl k

  pub path_chosen : (calibrated : Option Affine) (d₀ d₁ : Option Float) → Chosen shape chain from to (path_of shape calibrated d₀ d₁ chain from to)
  unfolding path_of
  path_chosen calibrated d₀ d₁ = go (ltb (length shape) 2)
    where
      go : (b : Bool) → Chosen shape chain from to (cond b (over_chain chain) (over_span (feed_span calibrated d₀ d₁) (over_route (route_between shape from to) (over_chain chain))))
      go true = chained c
      go false = over_feed calibrated d₀ d₁ (over_route (route_between shape from to) (over_chain chain)) (over_route_lem (route_between shape from to) refl)

-- ---- by distance: what is granted of a span is granted of the two distances

record Both (d₀ d₁ : Float) : Type 0 where
  here : Distance d₀
  there : Distance d₁

span_distances : (d₀ d₁ : Float) (span : Span) → span_of d₀ d₁ ≡ Some span → Distance span.lo → Distance span.hi → Both d₀ d₁
unfolding span_of spread
span_distances d₀ d₁ span e L H = go (le d₀ d₁) (lt (abs_of (sub binary64 d₁ d₀)) half) (lt (abs_of (sub binary64 d₀ d₁)) half) e
  where
    onward : Span
    onward = record { lo = d₀; hi = d₁; way = With }

    back : Span
    back = record { lo = d₁; hi = d₀; way = Against }

    lo_of : (s : Span) → s ≡ span → Distance s.lo
    lo_of s q = subst (λ (z : Span). Distance z.lo) (sym q) L

    hi_of : (s : Span) → s ≡ span → Distance s.hi
    hi_of s q = subst (λ (z : Span). Distance z.hi) (sym q) H

    go : (a b c : Bool) → cond a (cond b None (Some onward)) (cond c None (Some back)) ≡ Some span → Both d₀ d₁
    go true true c e = absurd (true≢false (cc))
    go true false c e = let q : onward ≡ span = cc in record { here = lo_of onward q; there = hi_of onward q }
    go false b true e = absurd (true≢false (cc))
    go false b false e = let q : back ≡ span = cc in record { here = hi_of back q; there = lo_of back q }

-- ---- along the shape: the part between the nearest vertices has a stretch, is not under a metre, and is of the shape

nearest_from_lem : (best : ℕ) (distance : Float) (k : ℕ) (stop : Point) (line : List Point) → best ≤ k → nearest_from best distance k stop line ≤ k + length line
unfolding nearest_from
nearest_from_lem best distance k stop [] h = omega arith
nearest_from_lem best distance k stop (v ∷ line) h =
    go (lt (degrees_of v stop) distance) (nearest_from_lem k (degrees_of v stop) (suc k) stop line (omega arith)) (nearest_from_lem best distance (suc k) stop line (omega arith))
  where
    go : (b : Bool) → nearest_from k (degrees_of v stop) (suc k) stop line ≤ suc k + length line → nearest_from best distance (suc k) stop line ≤ suc k + length line →
        cond b (nearest_from k (degrees_of v stop) (suc k) stop line) (nearest_from best distance (suc k) stop line) ≤ k + suc (length line)
    go true p q = omega arith
    go false p q = omega arith

nearest_within : (line : List Point) (stop : Point) → nearest_of line stop ≤ length line
unfolding nearest_of
nearest_within line stop = omega (arith, nearest_from_lem 0 largest 0 stop line (omega arith))

record Sailed (line : List Point) (route : Route) : Type 0 where
  whole : route_of line route.part ≡ route
  stretched : route.part.first < route.part.last
  long : T (not (lt route.total one))
  within : route.part.last ≤ length line

routed_sailed : (line : List Point) (part : Part) (way : Way) (prev next : Point) → part.first < part.last → part.last ≤ length line →
    (route : Route) (w : Way) → routed_of line part way prev next ≡ Some (record { route = route; way = w }) → Sailed line route
unfolding routed_of route_of
routed_sailed line part way prev next s i route w e = go (lt total one) (roundabout total prev next) (λ h. h) e
  where
    the : Route
    the = route_of line part

    total : Float
    total = the.total

    both : Routed
    both = record { route = the; way = way }

    go : (a b : Bool) → (T (not a) → T (not (lt total one))) → cond (a || b) None (Some both) ≡ Some (record { route = route; way = w }) → Sailed line route
    go true b h e = absurd (true≢false (cc))
    go false true h e = absurd (true≢false (cc))
    go false false h e = let q : both ≡ record { route = route; way = w } = cc in subst (λ (r : Routed). Sailed line r.route) q (record { whole = refl; stretched = s; long = h tt; within = i })

route_sailed : (line : List Point) (prev next : Point) (route : Route) (w : Way) → route_between line prev next ≡ Some (record { route = route; way = w }) → Sailed line route
unfolding route_between
route_sailed line prev next route w e = go (ltb i j) (ltb j i) (ltb→lt i j) (ltb→lt j i) e
  where
    i : ℕ
    i = nearest_of line prev

    j : ℕ
    j = nearest_of line next

    go : (x y : Bool) → (T x → i < j) → (T y → j < i) →
        cond x (routed_of line (record { first = i; last = j }) With prev next) (cond y (routed_of line (record { first = j; last = i }) Against prev next) None) ≡ Some (record { route = route; way = w }) →
        Sailed line route
    go true y p q e = routed_sailed line (record { first = i; last = j }) With prev next (p tt) (nearest_within line next) route w e
    go false true p q e = routed_sailed line (record { first = j; last = i }) Against prev next (q tt) (nearest_within line prev) route w e
    go false false p q e = absurd (true≢false (cc))

route_on_part : (line : List Point) (route : Route) (way : Way) → Sailed line route → (f : Float) → Inside f → OnPart route.part (spot_along line route way f)
unfolding route_of
route_on_part line route way s f i =
    subst (λ (r : Route). OnPart route.part (spot_along line r way f)) s.whole
    (sailed_on_part line route.part way s.stretched (subst (λ (r : Route). T (not (lt r.total one))) (sym s.whole) s.long) f i)

-- ---- of every path that can be chosen

module _ (shape chain : List Point) (from to : Point) where
  -- one straight stretch between the leg's ends
  pub record Straightly (path : Path) : Type 0 where
    pub spots : (f : Float) → Inside f → spot_of shape chain path f ≡ Straight f
    pub starts : at (path_line shape chain from to path) (path_part shape path).first ≡ from
    pub ends : at (path_line shape chain from to path) (path_part shape path).last ≡ to

  -- on the part's stretches, or on none
  abbrev pub Partly : Path → Type 0
  Partly path = (f : Float) → Inside f → OnPart (path_part shape path) (spot_of shape chain path f)

  chain_on : Chained from to chain → Straightly (over_chain chain) ⊎ Partly (over_chain chain)
  unfolding route_of
  chain_on c = go (chain_on_part chain (whole_of chain) (let h = c.points in omega arith))
    where
      go : ((f : Float) → Inside f → along_of chain (route_of chain (whole_of chain)) f ≡ Straight f) ⊎
          ((f : Float) → Inside f → OnPart (whole_of chain) (along_of chain (route_of chain (whole_of chain)) f)) →
          Straightly (over_chain chain) ⊎ Partly (over_chain chain)
      go (inl e) = inl (record { spots = e; starts = c.starts; ends = c.ends })
      go (inr h) = inr h

  -- a path is the one or the other, at every fraction strictly between the leg's ends, and at NaN: so it is never at its bare first vertex
  pub on_path : {path : Path} → Chosen shape chain from to path → Straightly path ⊎ Partly path
  on_path (spanned d₀ d₁ span e) = inr (λ f i. over_on_part shape span f)
  on_path (routed route way e) = inr (route_on_part shape route way (route_sailed shape from to route way e))
  on_path (chained c) = chain_on c
  on_path straight = inl (record { spots = λ f i. refl; starts = refl; ends = refl })

  -- its stretches are few
  pub path_few : {path : Path} → Chosen shape chain from to path → length shape ≤ 8192 → length chain ≤ 1000002 → stretches (path_part shape path) ≤ 4194304
  unfolding route_of
  path_few (spanned d₀ d₁ span e) a b = omega arith
  path_few (routed route way e) a b = omega (arith, (route_sailed shape from to route way e).within)
  path_few (chained c) a b = omega arith
  path_few straight a b = omega arith

  -- a larger fraction gives no earlier spot
  pub spots_onward : {path : Path} → Chosen shape chain from to path → Granted shape chain path → stretches (path_part shape path) ≤ 4194304 → (f g : Float) → T (le f g) →
      Spot·noEarlier (path_part shape path) (path_way path) (spot_of shape chain path f) (spot_of shape chain path g)
  unfolding route_of
  spots_onward (spanned d₀ d₁ span e) granted few f g h =
      let d = span_distances d₀ d₁ span e granted.distances.0 granted.distances.1 in never_earlier_by_distance shape d₀ d₁ d.here d.there granted.lengths span e f g h
  spots_onward (routed route way e) granted few f g h = never_earlier_polyline shape from to route way e granted.lengths few f g h
  spots_onward (chained c) granted few f g h = unfold route_of in never_earlier_on_line chain (whole_of chain) granted.lengths few f g h
  spots_onward straight granted few f g h = inr (refl, h)
