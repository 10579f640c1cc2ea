-- `chains::questions::chain_walk` meets its contract.
use borrow.Author.Rules.{rules}
use Prim.Native.Nat.{ℕ}
use native.Mathlib.Omega.{arith}
use lib.ListN.{length-replicate}
use Rattle.chains.proofs.Zeros.{zeros}
use Rattle.chains.proofs.questions.chain_walk.Goals as goal

pub walk_in-requires : goal.walk_in-requires
walk_in-requires c = record { count_bound = omega (arith, length-replicate {A = ℕ} 4 0, c.if-chain-le256.true); by_index = zeros 4 }

pub returns-then-chain-le256 : goal.returns-then-chain-le256
returns-then-chain-le256 c = c.walk_in.ensures

pub walk_in-requires-2 : goal.walk_in-requires-2
walk_in-requires-2 c = record { count_bound = omega (arith, length-replicate {A = ℕ} 15625 0, c.requires); by_index = zeros 15625 }

pub returns : goal.returns
returns c = c.walk_in-2.ensures
