-- `chains::questions::chain_route` meets its contract.
use borrow.Author.Rules.{rules}
use Prim.Native.Nat.{ℕ}
use native.Mathlib.Omega.{arith}
use lib.ListN.{length-replicate}
use Rattle.chains.proofs.Zeros.{zeros}
use Rattle.chains.proofs.questions.chain_route.Goals as goal

pub route_in-requires : goal.route_in-requires
route_in-requires c = record { count_bound = omega (arith, length-replicate {A = ℕ} 4 0, c.if-chain-le256.true); by_index = zeros 4 }

pub returns-then-chain-le256 : goal.returns-then-chain-le256
returns-then-chain-le256 c = c.route_in.ensures

pub route_in-requires-2 : goal.route_in-requires-2
route_in-requires-2 c = record { count_bound = omega (arith, length-replicate {A = ℕ} 15625 0, c.requires); by_index = zeros 15625 }

pub returns : goal.returns
returns c = c.route_in-2.ensures
