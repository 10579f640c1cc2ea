-- `sailings::trip::trip_from` meets its contract.
use Rattle.std.specs.Prelude.{Option, ℕ}
use mathlib.Core.Path.{◌≡◌, ◌∙◌, ap, sym, subst}
use lib.IntN.{ℤ}
use mir.Syntax.{w64}
use mir.Val.{SFits, to_z, of_z}
use mir.Facts.{to_z-of_z}
use Rattle.moments.specs.Moments.{InReach}
use Rattle.sailings.specs.Sailing.{local_at, trip_from}
use Rattle.sailings.proofs.trip.trip_from.Goals as goal

-- the first departure in local time, as the code hands it on
local_read : (m : Option ℕ) (x y z : ℤ) → SFits w64 x → SFits w64 y → x ≡ z → y ≡ local_at m (to_z w64 (of_z w64 x)) → to_z w64 (of_z w64 y) ≡ local_at m z
local_read m x y z f g e h = to_z-of_z {w = w64} g ∙ h ∙ ap (local_at m) (to_z-of_z {w = w64} f ∙ e)

pub local-at-requires : goal.local-at-requires
local-at-requires c =
    let e = to_z-of_z {w = w64} (record { sfits = c.offset.type_inv }) ∙ c.offset.ensures in
    record { in_time = c.requires.in_time; in_reach = subst (λ (z : ℤ). InReach (local_at c.args.first z)) (sym e) c.requires.in_reach }

pub today-requires : goal.today-requires
today-requires c =
    let e = local_read c.args.first c.offset.result c.local-at.result _ (record { sfits = c.offset.type_inv }) (record { sfits = c.local-at.type_inv }) c.offset.ensures c.local-at.ensures in
    subst InReach (sym e) c.requires.in_reach

pub yesterday-requires : goal.yesterday-requires
yesterday-requires c =
    let e = local_read c.args.first c.offset.result c.local-at.result _ (record { sfits = c.offset.type_inv }) (record { sfits = c.local-at.type_inv }) c.offset.ensures c.local-at.ensures in
    subst InReach (sym e) c.requires.in_reach

pub resolve-requires : goal.resolve-requires
resolve-requires c = rw c.plan_of-p.ensures c.requires.ready

pub returns : goal.returns
unfolding trip_from
returns c =
    let e = local_read c.args.first c.offset.result c.local-at.result _ (record { sfits = c.offset.type_inv }) (record { sfits = c.local-at.type_inv }) c.offset.ensures c.local-at.ensures in
    rw (c.resolve.ensures, c.yesterday.ensures, c.today.ensures, e, c.has_departure.ensures, c.route.ensures, c.base_key.ensures, c.plan_of-p.ensures)
