-- A route over a leg's chain, and where the chain is at a fraction of it. Definitions only.
use Rattle.std.specs.Prelude.{List, Float}
use Rattle.lengths.specs.declared.line.Point.{Point}
use Rattle.line_parts.specs.Part.{whole_of}
use Rattle.stretches.specs.Drawing.{draw_of}
use Rattle.routes.specs.Route.{route_of, along_of}
use Rattle.routes.specs.declared.route.Route.{Route}
use Rattle.chains.specs.declared.questions.OnChain.{OnChain}

-- the whole of it, with its length
unfoldable pub chain_route : List Point → Route
chain_route line = route_of line (whole_of line)

-- where a line is at a fraction of a route over it: the spot, and the position there
unfoldable pub on_chain : List Point → Route → Float → OnChain
on_chain line route f = let spot = along_of line route f in record { spot = spot; drawn = draw_of line route.part spot }
