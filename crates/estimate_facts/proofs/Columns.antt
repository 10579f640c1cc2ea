-- Rows of columns that are not at fault, as the pools have them. Assumes nothing.
use Prim.Native.Nat.{ℕ, ◌+◌, ◌<◌, ◌≤◌}
use native.Mathlib.Omega.{arith}
use mathlib.Core.Path.{◌≡◌, refl}
use mathlib.Core.Bool.{Bool, true}
use lib.Dec.{leb→le}
use lib.IntN.{ℤ, pos, negsuc}
use lib.ListN.{get_or, length, length-take, drop}
use lib.Signed.{◌≤ℤ◌}
use Rattle.ids.specs.Pool.{cell_of, id_of}
use Rattle.ids.specs.declared.pool.IdColumn.{IdColumn}
use Rattle.ids.specs.declared.pool.Span.{Span}
use Rattle.tables.specs.Pools.{Pools}
use Rattle.tables.specs.Marks.{always, where_set}
use Rattle.tables.specs.declared.bounds.Bounds.{Bounds}
use Rattle.tables.specs.declared.mark.Mark.{Mark}
use Rattle.tables.specs.declared.lent.IdRows.{IdRows}
use Rattle.verdicts.proofs.Facts.{Sized, Counts, Below, Between, RangesWithin, IdsHold, all_count, counted, part_at}
use Rattle.verdicts.proofs.Passed.{Clear, clear_drop}
use Rattle.lookup_rules.specs.Parts.{id_rows_causes}
use Rattle.lookup_rules.proofs.Parts.{row_ids, rows_below}
use Rattle.timetable.proofs.Holds.{flag_counts}
use Rattle.update_rows.specs.Updates.{is_set, moment_of, moment_at}

-- a moment is no later than the time that it is read from
moment_by : (z : ℤ) (most : ℕ) → z ≤ℤ pos most → moment_of z ≤ most
moment_by (pos n) most h = leb→le n most h.le
moment_by (negsuc n) most h = omega arith

module _ (p : Pools) where
  -- a row whose flag is set counts
  pub set_counts : {s : Span} {n : ℕ} → Sized (length p.bytes) s n → (k : ℕ) → k < n → is_set p.bytes s k ≡ true → Counts p (where_set s) k
  unfolding is_set
  set_counts z k l e = flag_counts p z k l e

  -- a number that counts is below its bound
  pub cell_below : (m : Mark) {s : Span} {n most : ℕ} → Sized (length p.words) s n → Below p s m n most → (k : ℕ) → k < n → Counts p m k → cell_of p.words s k < most
  cell_below m z b k l o = rw (part_at p.words z 0 k l) at (b k l o)

  -- a range of rows ends within its table
  pub range_within : {first count : Span} {n rows : ℕ} → Sized (length p.words) first n → Sized (length p.words) count n → RangesWithin p first count n rows →
      (k : ℕ) → k < n → cell_of p.words first k + cell_of p.words count k ≤ rows
  range_within y z b k l = rw (part_at p.words y 0 k l, part_at p.words z 0 k l) at (b k l)

  -- a time that counts is between its bounds
  pub time_between : (m : Mark) {s : Span} {n : ℕ} {lo hi : ℤ} → Sized (length p.times) s n → Between p s m n lo hi → (k : ℕ) → k < n → Counts p m k →
      (lo ≤ℤ get_or p.times (s.at + k) (pos 0)) × (get_or p.times (s.at + k) (pos 0) ≤ℤ hi)
  time_between m z b k l o = rw (part_at p.times z (pos 0) k l) at (b k l o)

  -- as a moment it is no later than the second
  pub moment_most : (m : Mark) {s : Span} {n : ℕ} {lo : ℤ} {most : ℕ} → Sized (length p.times) s n → Between p s m n lo (pos most) → (k : ℕ) → k < n → Counts p m k → moment_at p.times s k ≤ most
  unfolding moment_at
  moment_most m {s = s} {most = most} z b k l o = moment_by (get_or p.times (s.at + k) (pos 0)) most (time_between m z b k l o).1

  -- an id that counts is short
  pub id_short : {c : IdColumn} {m : Mark} {empty : Bool} {n most : ℕ} → IdsHold p c m empty n most → (k : ℕ) → k < n → Counts p m k → length (id_of p.bytes p.words c k) ≤ most
  unfolding id_of
  id_short h k l o = simp length-take (omega (arith, h.short k l o))

  -- the record that a row of ids names is one of its table's
  pub record_below : (b : Bounds) (i : IdRows) (most records : ℕ) → Clear p (id_rows_causes b i most records) → (k : ℕ) → k < i.id.starts.n → cell_of p.words i.row k < records
  record_below b i most records h k l =
      let m : k < i.row.n = omega (arith, (row_ids p b i most records h).starts.many) in
      cell_below always (counted p (drop 4 (id_rows_causes b i most records)) (clear_drop p (id_rows_causes b i most records) h 4)).0 (rows_below p b i most records h) k m (all_count p always refl k)
