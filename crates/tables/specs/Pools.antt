-- The five pools, and a column's part of its pool, cut where the pool ends.
use Rattle.std.specs.Prelude.{ℕ, List, ℤ, Float, length, take, drop}
use Rattle.ids.specs.declared.pool.Span.{Span}
use Rattle.tables.specs.declared.mark.Mark.{Mark}
use Rattle.tables.specs.declared.mark.Pool.{Pool}
use Rattle.ids.specs.declared.pool.Lent.{Lent}
use Rattle.tables.specs.declared.mark.Pool.TheVariants.{Bytes, Words, Times, Reals, Dists}

pub record Pools : Type 0 where
  pub bytes : List ℕ
  pub words : List ℕ
  pub times : List ℤ
  pub reals : List Float
  pub dists : List Float

abbrev pub pools : List ℕ → List ℕ → List ℤ → List Float → List Float → Pools
pools b w t r d = record { bytes = b; words = w; times = t; reals = r; dists = d }

-- the pools that are lent, as lists
abbrev pub pools_of : Lent → Pools
pools_of lent = pools lent.bytes.now lent.words.now lent.times.now lent.reals.now lent.dists.now

abbrev pub part_of : {A : Type 0} → List A → Span → List A
part_of xs s = take s.n (drop s.at xs)

abbrev pub flags_of : Pools → Mark → List ℕ
flags_of p m = part_of p.bytes m.flags

abbrev pub pool_length : Pools → Pool → ℕ
pool_length p Bytes = length p.bytes
pool_length p Words = length p.words
pool_length p Times = length p.times
pool_length p Reals = length p.reals
pool_length p Dists = length p.dists
