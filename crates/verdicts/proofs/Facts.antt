-- What is so of the rows of a column where its tests find no fault. A row is numbered below n, the column's count; where a mark tells rows apart, it counts.
use Rattle.std.specs.declared.cmp.Ordering.TheVariants.{Less}
use Prim.Native.Nat.{ℕ, ◌+◌, ◌<◌, ◌≤◌, min}
use native.Mathlib.Omega.{arith}
use mathlib.Core.Path.{◌≡◌, refl}
use mathlib.Core.Bool.{Bool, true, false}
use mathlib.Core.List.{List, [], ◌∷◌}
use borrow.Author.Tests.{ltb-false, eqb-true, not-false}
use lib.Ieee.{nan, is_nan}
use lib.IntN.{ℤ, pos, negsuc}
use lib.ListN.{length, get_or, length-take, length-drop}
use lib.Seq.{get_or-take, get_or-drop}
use lib.Signed.{◌≤ℤ◌}
use Rattle.days.specs.Days.{is_date}
use Rattle.ids.specs.Pool.{cell_of, id_of}
use Rattle.ids.specs.Rows.{Ascending, GoodIds}
use Rattle.ids.specs.declared.pool.IdColumn.{IdColumn}
use Rattle.ids.specs.declared.pool.Span.{Span}
use Rattle.globe.specs.Globe.{on_globe}
use Rattle.column_floats.specs.Real.{is_finite}
use Rattle.columns.specs.Rows.{counts}
use Rattle.columns.proofs.Passed.{fails, neither, below_bound, ends_within, in_range}
use Rattle.column_floats.proofs.Finite.{on_globe_lem, is_finite_lem}
use Rattle.column_ids.proofs.Passed.{id_printable, id_not_empty}
use Rattle.column_order.specs.Order.{cmp_rows}
use Rattle.column_order.specs.declared.order.Key.{Key}
use Rattle.column_order.specs.declared.order.Key.TheVariants.{Word, Id}
use Rattle.column_order.proofs.Sorted.{rows_ascend, ids_ascend, numbers_ascend}
use Rattle.tables.specs.Pools.{Pools, part_of, flags_of, pool_length}
use Rattle.column_faults.specs.Faulty.{ill_sized}
use Rattle.faults.specs.Fault.{fails_of, no_date_at, nan_at}
use Rattle.verdicts.specs.Refuse.{Cause, id_causes}
use Rattle.tables.specs.declared.mark.Mark.{Mark}
use Rattle.tables.specs.declared.mark.Pool.TheVariants.{Words, Times, Reals, Dists}
use Rattle.faults.specs.declared.fault.Test.{Test}
use Rattle.faults.specs.declared.fault.Test.TheVariants.{Column, Ids, Over, Reaches, OffGlobe, Unsorted, IdsPast, EndsPast, Moment, Offset, BadIds, NotFinite, NoDate, NotANumber}
use Rattle.verdicts.proofs.Passed.{Clear}

-- A column that has n rows, all in its pool.
pub record Sized (len : ℕ) (s : Span) (n : ℕ) : Type 0 where
  pub within : s.at + s.n ≤ len
  pub many : s.n ≡ n

sized : {len : ℕ} {s : Span} {n : ℕ} → ill_sized len s n ≡ false → Sized len s n
sized e = let h = neither _ _ e in record { within = ltb-false _ _ h.0; many = eqb-true _ _ (not-false _ h.1) }

-- Its part of the pool has them, each where it stands in the pool.
module _ {A : Type 0} (xs : List A) {s : Span} {n : ℕ} (z : Sized (length xs) s n) where
  pub part_length : length (part_of xs s) ≡ n
  part_length = simp (length-take, length-drop) (omega (arith, z.within, z.many))

  pub part_at : (d : A) (k : ℕ) → k < n → get_or (part_of xs s) k d ≡ get_or xs (s.at + k) d
  part_at d k l = let m : k < s.n = omega (arith, z.many) in rw (get_or-take, get_or-drop)

  row : (k : ℕ) → k < n → k < length (part_of xs s)
  row k l = omega (arith, part_length)

module _ (p : Pools) where
  -- row k of a mark counts
  abbrev pub Counts : Mark → ℕ → Type 0
  Counts m k = counts m.all (flags_of p m) k ≡ true

  pub all_count : (m : Mark) → m.all ≡ true → (k : ℕ) → Counts m k
  unfolding counts
  all_count m a k = rw a

  -- dates
  abbrev pub Dates : Span → ℕ → Type 0
  Dates s n = (k : ℕ) → k < n → is_date (get_or (part_of p.words s) k 0) ≡ true

  pub dates : (s : Span) (n : ℕ) → fails_of p (Column Words s n) ≡ false → fails_of p (NoDate s) ≡ false → Dates s n
  unfolding fails_of no_date_at
  dates s n z e k l = not-false _ (fails (no_date_at (part_of p.words s)) _ e k (row p.words (sized z) k l))

  -- numbers, none NaN
  abbrev pub Numbers : Span → ℕ → Type 0
  Numbers s n = (k : ℕ) → k < n → is_nan (get_or (part_of p.reals s) k nan) ≡ false

  pub numbers : (s : Span) (n : ℕ) → fails_of p (Column Reals s n) ≡ false → fails_of p (NotANumber s) ≡ false → Numbers s n
  unfolding fails_of nan_at
  numbers s n z e k l = fails (nan_at (part_of p.reals s)) _ e k (row p.reals (sized z) k l)

  -- distances, all finite
  abbrev pub Finite : Span → Mark → ℕ → Type 0
  Finite s m n = (k : ℕ) → k < n → Counts m k → is_finite (get_or (part_of p.dists s) k nan) ≡ true

  pub finite : (s : Span) (m : Mark) (n : ℕ) → fails_of p (Column Dists s n) ≡ false → fails_of p (NotFinite s m) ≡ false → Finite s m n
  unfolding fails_of
  finite s m n z e k l = is_finite_lem m.all (flags_of p m) (part_of p.dists s) e k (row p.dists (sized z) k l)

  -- numbers below a bound
  abbrev pub Below : Span → Mark → ℕ → ℕ → Type 0
  Below s m n most = (k : ℕ) → k < n → Counts m k → get_or (part_of p.words s) k 0 < most

  pub below : (s : Span) (m : Mark) (n most : ℕ) → fails_of p (Column Words s n) ≡ false → fails_of p (Reaches s m most) ≡ false → Below s m n most
  unfolding fails_of
  below s m n most z e k l = below_bound m.all (flags_of p m) (part_of p.words s) most e k (row p.words (sized z) k l)

  -- moments, and offsets, between their bounds
  abbrev pub Between : Span → Mark → ℕ → ℤ → ℤ → Type 0
  Between s m n lo hi = (k : ℕ) → k < n → Counts m k → (lo ≤ℤ get_or (part_of p.times s) k (pos 0)) × (get_or (part_of p.times s) k (pos 0) ≤ℤ hi)

  pub moments : (s : Span) (m : Mark) (n : ℕ) → fails_of p (Column Times s n) ≡ false → fails_of p (Moment s m) ≡ false → Between s m n (pos 0) (pos 4102444799)
  unfolding fails_of
  moments s m n z e k l = in_range m.all (flags_of p m) (part_of p.times s) _ _ e k (row p.times (sized z) k l)

  pub offsets : (s : Span) (m : Mark) (n : ℕ) → fails_of p (Column Times s n) ≡ false → fails_of p (Offset s) ≡ false → Between s m n (negsuc 50399) (pos 50400)
  unfolding fails_of counts
  offsets s m n z e k l o = in_range true [] (part_of p.times s) _ _ e k (row p.times (sized z) k l) refl

  -- positions on the globe
  abbrev pub OnGlobe : Span → Span → Mark → ℕ → Type 0
  OnGlobe lat lon m n = (k : ℕ) → k < n → Counts m k → on_globe (get_or (part_of p.reals lat) k nan) (get_or (part_of p.reals lon) k nan) ≡ true

  pub on_the_globe : (lat lon : Span) (m : Mark) (n : ℕ) → fails_of p (Column Reals lat n) ≡ false → fails_of p (Column Reals lon n) ≡ false → fails_of p (OffGlobe lat lon m) ≡ false → OnGlobe lat lon m n
  unfolding fails_of
  on_the_globe lat lon m n y z e k l =
      on_globe_lem m.all (flags_of p m) (part_of p.reals lat) (part_of p.reals lon) e k (omega (arith, row p.reals (sized y) k l, row p.reals (sized z) k l))

  -- ranges of rows, first and count, that end within a table of so many
  abbrev pub RangesWithin : Span → Span → ℕ → ℕ → Type 0
  RangesWithin first count n rows = (k : ℕ) → k < n → get_or (part_of p.words first) k 0 + get_or (part_of p.words count) k 0 ≤ rows

  pub ranges_within : (first count : Span) (n rows : ℕ) → fails_of p (Column Words first n) ≡ false → fails_of p (Column Words count n) ≡ false → fails_of p (EndsPast first count rows) ≡ false → RangesWithin first count n rows
  unfolding fails_of counts
  ranges_within first count n rows y z e k l =
      ends_within true [] (part_of p.words first) (part_of p.words count) rows e k (omega (arith, row p.words (sized y) k l, row p.words (sized z) k l)) refl

  -- rows that ascend: by their key, by an id, by a number
  abbrev pub Ascend : Key → ℕ → Type 0
  Ascend key n = (i j : ℕ) → i < j → j < n → cmp_rows p.bytes p.words key i j ≡ Less

  pub ascend : (key : Key) (n : ℕ) → fails_of p (Unsorted key n) ≡ false → Ascend key n
  unfolding fails_of
  ascend key n e = rows_ascend p.bytes p.words key n e

  pub by_id : (c : IdColumn) (n : ℕ) → fails_of p (Unsorted (Id c) n) ≡ false → Ascending (id_of p.bytes p.words c) n
  unfolding fails_of
  by_id c n e = ids_ascend p.bytes p.words c n e

  pub by_number : (s : Span) (n : ℕ) → fails_of p (Unsorted (Word s) n) ≡ false → (i j : ℕ) → i < j → j < n → cell_of p.words s i < cell_of p.words s j
  unfolding fails_of
  by_number s n e = numbers_ascend p.bytes p.words s n e

  -- a column of n ids: in its pool, and of those that count each at most so long, in the byte pool, of bytes 32 to 126, and not empty unless it may be
  pub record IdsHold (c : IdColumn) (m : Mark) (empty : Bool) (n most : ℕ) : Type 0 where
    pub starts : Sized (length p.words) c.starts n
    pub lens : Sized (length p.words) c.lens n
    pub short : (k : ℕ) → k < n → Counts m k → cell_of p.words c.lens k ≤ most
    pub within : (k : ℕ) → k < n → Counts m k → cell_of p.words c.starts k + cell_of p.words c.lens k ≤ length p.bytes
    pub printable : (k : ℕ) → k < n → Counts m k → (j : ℕ) → j < length (id_of p.bytes p.words c k) →
        (32 ≤ get_or (id_of p.bytes p.words c k) j 0) × (get_or (id_of p.bytes p.words c k) j 0 ≤ 126)
    pub there : empty ≡ false → (k : ℕ) → k < n → Counts m k → 0 < length (id_of p.bytes p.words c k)

  module _ (c : IdColumn) (m : Mark) (empty : Bool) (n most : ℕ) (h : Clear p (id_causes c m empty n most)) where
    ids_sized : (ill_sized (length p.words) c.starts n ≡ false) × (ill_sized (length p.words) c.lens n ≡ false)
    unfolding fails_of
    ids_sized = neither _ _ h.0

    -- row k, as the part of the pool has it and as the pool has it
    starts_at : (k : ℕ) → k < n → get_or (part_of p.words c.starts) k 0 ≡ cell_of p.words c.starts k
    starts_at = part_at p.words (sized ids_sized.0) 0

    lens_at : (k : ℕ) → k < n → get_or (part_of p.words c.lens) k 0 ≡ cell_of p.words c.lens k
    lens_at = part_at p.words (sized ids_sized.1) 0

    both_rows : (k : ℕ) → k < n → k < min (length (part_of p.words c.starts)) (length (part_of p.words c.lens))
    both_rows k l = omega (arith, row p.words (sized ids_sized.0) k l, row p.words (sized ids_sized.1) k l)

    pub ids_hold : IdsHold c m empty n most
    unfolding fails_of id_of
    ids_hold =
        record {
          starts = sized ids_sized.0;
          lens = sized ids_sized.1;
          short = λ k l o. let b = below c.lens m n (most + 1) ids_sized.1 h.1.0 k l o in omega (arith, lens_at k l);
          within = λ k l o. rw (starts_at k l, lens_at k l) at (ends_within m.all (flags_of p m) _ _ _ h.1.1.0 k (both_rows k l) o);
          printable = λ k l o. rw (starts_at k l, lens_at k l) at (id_printable m.all (flags_of p m) p.bytes (part_of p.words c.starts) (part_of p.words c.lens) empty h.1.1.1.0 k (both_rows k l) o);
          there = λ f k l o. rw (starts_at k l, lens_at k l) at (id_not_empty m.all (flags_of p m) p.bytes (part_of p.words c.starts) (part_of p.words c.lens) empty h.1.1.1.0 k (both_rows k l) o f);
        }

  -- ids that ascend, as a search by halves takes them
  pub good_ids : {c : IdColumn} {m : Mark} {empty : Bool} {n most : ℕ} → IdsHold c m empty n most → m.all ≡ true → most ≤ 96 → Ascending (id_of p.bytes p.words c) n → GoodIds (id_of p.bytes p.words c) n
  unfolding id_of
  good_ids {m = m} h a s e = record { ascending = e; short = λ k l. simp length-take (omega (arith, h.short k l (all_count m a k))) }

  -- what a test says of columns and counts, and no more
  abbrev pub Counting : Test → Type 0 → Type 0
  Counting (Column pool s n) r = Sized (pool_length p pool) s n × r
  Counting (Ids c n) r = Sized (length p.words) c.starts n × (Sized (length p.words) c.lens n × r)
  Counting (Over n most) r = (n ≤ most) × r
  Counting (Reaches s m n) r = r
  Counting (OffGlobe lat lon m) r = r
  Counting (Unsorted key n) r = r
  Counting (IdsPast c m) r = r
  Counting (EndsPast first count n) r = r
  Counting (Moment s m) r = r
  Counting (Offset s) r = r
  Counting (BadIds c m empty) r = r
  Counting (NotFinite s m) r = r
  Counting (NoDate s) r = r
  Counting (NotANumber s) r = r

  counts_on : (t : Test) {r : Type 0} → fails_of p t ≡ false → r → Counting t r
  unfolding fails_of
  counts_on (Column pool s n) e x = (sized e, x)
  counts_on (Ids c n) e x = let h = neither _ _ e in (sized h.0, (sized h.1, x))
  counts_on (Over n most) e x = (ltb-false _ _ e, x)
  counts_on (Reaches s m n) e x = x
  counts_on (OffGlobe lat lon m) e x = x
  counts_on (Unsorted key n) e x = x
  counts_on (IdsPast c m) e x = x
  counts_on (EndsPast first count n) e x = x
  counts_on (Moment s m) e x = x
  counts_on (Offset s) e x = x
  counts_on (BadIds c m empty) e x = x
  counts_on (NotFinite s m) e x = x
  counts_on (NoDate s) e x = x
  counts_on (NotANumber s) e x = x

  -- the columns and counts of a list of causes: each column has its rows in its pool, each count is within its bound
  abbrev pub Counted : List Cause → Type 0
  Counted [] = Unit {0}
  Counted (c ∷ cs) = Counting c.1 (Counted cs)

  pub counted : (cs : List Cause) → Clear p cs → Counted cs
  counted [] h = tt
  counted (c ∷ cs) h = counts_on c.1 h.0 (counted cs h.1)
