-- Which rows and ends a leg's chain has. Definitions only.
use Rattle.std.specs.Prelude.{ℕ, Bool, true, false, cond, List, ltb}
use Rattle.ids.specs.Pool.{cell_of}
use Rattle.tables.specs.declared.lent.Trips.{Trips}
use Rattle.lengths.specs.declared.line.Point.{Point}
use Rattle.chain_rows.specs.declared.chain.Chain.{Chain}

-- the rows of a trip with a sequence from lo to hi
abbrev pub spanned : List ℕ → Trips → ℕ → ℕ → ℕ → Bool → Point → Point → Chain
spanned words trips trip lo hi reversed from to =
    record { first = cell_of words trips.first trip; count = cell_of words trips.count trip; lo = lo; hi = hi; reversed = reversed; from = from; to = to }

-- a leg of a trip, from the sequence s at `from` to the sequence t at `to`: where s is the higher, it is sailed against the order of the rows
unfoldable pub leg_chain : List ℕ → Trips → ℕ → ℕ → Point → ℕ → Point → Chain
leg_chain words trips trip s from t to = cond (ltb t s) (spanned words trips trip t s true from to) (spanned words trips trip s t false from to)
