-- What makes a refusal, and the first that applies: the least number whose cause is there.
use Rattle.std.specs.Prelude.{ℕ, ◌+◌, Bool, cond, ◌||◌, List, [], ◌∷◌, ◌++◌, ltb, eqb}
use Rattle.ids.specs.declared.pool.IdColumn.{IdColumn}
use Rattle.tables.specs.Pools.{Pools}
use Rattle.tables.specs.declared.mark.Mark.{Mark}
use Rattle.faults.specs.Fault.{fails_of}
use Rattle.faults.specs.declared.fault.Test.{Test}
use Rattle.faults.specs.declared.fault.Test.TheVariants.{Ids, Reaches, IdsPast, BadIds}

-- a refusal's number, and the fault that it is given for
abbrev pub Cause : Type 0
Cause = ℕ × Test

abbrev pub cause : ℕ → Test → Cause
cause n t = (n, t)

-- the lesser of two numbers, where 0 is none
abbrev pub sooner : ℕ → ℕ → ℕ
sooner best n = cond (eqb best 0 || ltb n best) n best

-- with one cause more
abbrev pub with_cause : Pools → ℕ → Cause → ℕ
with_cause p best c = cond (fails_of p c.1) (sooner best c.0) best

-- the least number whose cause is there, from the least so far on; 0 where there is none
unfoldable pub least_of : Pools → ℕ → List Cause → ℕ
least_of p best [] = best
least_of p best (c ∷ cs) = least_of p (with_cause p best c) cs

-- the first refusal that applies, or 0
abbrev pub refusal_of : Pools → List Cause → ℕ
refusal_of p cs = least_of p 0 cs

-- a column of n ids, of which those that count are at most so long, and are not empty unless they may be
abbrev pub id_causes : IdColumn → Mark → Bool → ℕ → ℕ → List Cause
id_causes ids mark empty n most =
    (1, Ids ids n) ∷ (2, Reaches ids.lens mark (most + 1)) ∷ (5, IdsPast ids mark) ∷ (7, BadIds ids mark empty) ∷ []

-- lists one after another
unfoldable pub joined : List (List Cause) → List Cause
joined [] = []
joined (xs ∷ xss) = xs ++ joined xss
