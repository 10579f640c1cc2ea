-- `leg_paths::path::trip_path` meets its contract.
use borrow.Author.Rules.{rules}
use mathlib.Core.Path.{sym, ap, ◌∙◌}
use lib.ListN.{length}
use Rattle.leg_paths.proofs.Choice.{shape_is, no_shape, by_span, by_route}
use Rattle.leg_paths.proofs.path.trip_path.Goals as goal

pub chain_path-requires : goal.chain_path-requires
chain_path-requires c = c.requires

pub returns-then-vertices-lt2 : goal.returns-then-vertices-lt2
returns-then-vertices-lt2 c =
    c.chain_path.ensures
    ∙ no_shape _ _ _ _ _ _ _ _ _ (c.vertices.ensures ∙ ap length (shape_is _ _ _ _ _ _ _ _ c.leg_span-span.ensures c.shape_column-lat.ensures c.shape_column-lon.ensures)) c.if-vertices-lt2.true

pub route_path-requires : goal.route_path-requires
route_path-requires c = c.requires

pub returns-in-Some : goal.returns-in-Some
returns-in-Some c =
    by_span _ _ _ _ _ _ _ _ _ (c.vertices.ensures ∙ ap length (shape_is _ _ _ _ _ _ _ _ c.leg_span-span.ensures c.shape_column-lat.ensures c.shape_column-lon.ensures))
    _ c.if-vertices-lt2.false (sym c.trip_spanned.ensures ∙ c.in-Some.is)

pub returns-in-None : goal.returns-in-None
returns-in-None c =
    let a = c.args in
    let s = shape_is a.lent.now.bytes.now a.lent.now.words.now a.lent.now.reals.now a.c _ _ _ _ c.leg_span-span.ensures c.shape_column-lat.ensures c.shape_column-lon.ensures in
    rw (c.route_path.ensures, s) (by_route _ _ _ _ _ _ _ _ _ (c.vertices.ensures ∙ ap length s) c.if-vertices-lt2.false (sym c.trip_spanned.ensures ∙ c.in-None.is))
