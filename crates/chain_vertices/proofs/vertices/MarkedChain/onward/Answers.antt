-- `MarkedChain::onward` meets its contract.
use Rattle.std.proofs.Common.{suc, sym, ◌∙◌, arith}
use Rattle.ids.proofs.ByteOrder.{clash}
use Rattle.chain_vertices.proofs.Standing.{beyond, arrives, goes, never_bare, next_within, of_trip}
use Rattle.chain_vertices.proofs.vertices.MarkedChain.onward.Goals as goal

pub returns-then-ahead-lt2 : goal.returns-then-ahead-lt2
returns-then-ahead-lt2 c = rw c.past.ensures (beyond _ _ (suc c.args.k) (omega (arith, c.args.self.now.full)))

pub returns-then-ahead-lt3 : goal.returns-then-ahead-lt3
returns-then-ahead-lt3 c = arrives _ _ (suc c.args.k) (omega (arith, c.args.self.now.full))

pub returns-in_default : goal.returns-in_default
returns-in_default c = let s = c.args.self.now in clash (never_bare _ _ _ s.right _ _ c.requires (omega (arith, s.full)) (sym c.next.ensures ∙ c.in_default.is))

pub stop_of-stop-requires : goal.stop_of-stop-requires
stop_of-stop-requires c =
    let s = c.args.self.now in
    rw c.row_of.ensures (of_trip s.chain _ (next_within s.chain _ _ _ c.requires.within (sym c.next.ensures ∙ c.in-Some.is)))

pub returns : goal.returns
returns c =
    let s = c.args.self.now in
    rw (c.point_or.ensures, c.stop_of-stop.ensures, c.row_of.ensures)
    (goes _ _ _ s.right _ _ c.requires (omega (arith, s.full)) _ (sym c.next.ensures ∙ c.in-Some.is))
