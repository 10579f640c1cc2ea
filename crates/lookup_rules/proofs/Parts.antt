-- What is so of each part that trips and stops are looked up by where no cause of it is there. A number after `at` is a cause's place in the part's list.
-- `Rattle.verdicts.proofs.Facts` has what each kind of fact says, and `counted` for the part's columns and counts.
use Prim.Native.Nat.{ℕ, ◌<◌, ◌≤◌}
use native.Mathlib.Omega.{arith}
use mathlib.Core.Path.{refl, sym, subst}
use mathlib.Core.Bool.{false}
use lib.ListN.{drop, length, length-take}
use Rattle.ids.specs.Pool.{id_of}
use Rattle.ids.specs.Rows.{Ascending, GoodIds}
use Rattle.column_order.specs.declared.order.Key.TheVariants.{IdWord}
use Rattle.tables.specs.Pools.{Pools}
use Rattle.tables.specs.Marks.{always}
use Rattle.tables.specs.declared.bounds.Bounds.{Bounds}
use Rattle.tables.specs.declared.lent.Aliases.{Aliases}
use Rattle.tables.specs.declared.lent.IdRows.{IdRows}
use Rattle.tables.specs.declared.lent.Lines.{Lines}
use Rattle.verdicts.proofs.Passed.{Clear, clear_drop, clear_part}
use Rattle.verdicts.proofs.Facts.{Below, below, Ascend, ascend, by_id, IdsHold, ids_hold, all_count, good_ids}
use Rattle.lookup_rules.specs.Parts.{id_rows_causes, aliases_causes, lines_causes}

module _ (p : Pools) where
  module _ (b : Bounds) (i : IdRows) (most records : ℕ) (h : Clear p (id_rows_causes b i most records)) where
    at_id_rows : (k : ℕ) → Clear p (drop k (id_rows_causes b i most records))
    at_id_rows = clear_drop p (id_rows_causes b i most records) h

    pub row_ids : IdsHold p i.id always false i.row.n b.id
    row_ids = ids_hold p _ _ _ _ _ (clear_part p (id_rows_causes b i most records) h 0 4)

    pub row_ids_ascend : Ascending (id_of p.bytes p.words i.id) i.row.n
    row_ids_ascend = by_id p _ _ (at_id_rows 6).0

    -- as a search takes them, which has room for 96 bytes
    pub row_ids_good : b.id ≤ 96 → GoodIds (id_of p.bytes p.words i.id) i.id.starts.n
    row_ids_good s = subst (GoodIds (id_of p.bytes p.words i.id)) (sym row_ids.starts.many) (good_ids p row_ids refl s row_ids_ascend)

    pub rows_below : Below p i.row always i.row.n records
    rows_below = below p _ _ _ _ (at_id_rows 4).0 (at_id_rows 7).0

  module _ (b : Bounds) (a : Aliases) (h : Clear p (aliases_causes b a)) where
    at_aliases : (k : ℕ) → Clear p (drop k (aliases_causes b a))
    at_aliases = clear_drop p (aliases_causes b a) h

    pub alias_ids : IdsHold p a.id always false a.id.starts.n b.id
    alias_ids = ids_hold p _ _ _ _ _ (clear_part p (aliases_causes b a) h 0 4)

    pub alias_trips : IdsHold p a.trip always false a.id.starts.n b.id
    alias_trips = ids_hold p _ _ _ _ _ (clear_part p (aliases_causes b a) h 4 4)

    pub alias_ids_ascend : Ascending (id_of p.bytes p.words a.id) a.id.starts.n
    alias_ids_ascend = by_id p _ _ (at_aliases 9).0

    pub alias_ids_good : b.id ≤ 96 → GoodIds (id_of p.bytes p.words a.id) a.id.starts.n
    alias_ids_good s = good_ids p alias_ids refl s alias_ids_ascend

  module _ (b : Bounds) (l : Lines) (trips : ℕ) (h : Clear p (lines_causes b l trips)) where
    at_lines : (k : ℕ) → Clear p (drop k (lines_causes b l trips))
    at_lines = clear_drop p (lines_causes b l trips) h

    pub line_tokens : IdsHold p l.token always false l.trip.n b.id
    line_tokens = ids_hold p _ _ _ _ _ (clear_part p (lines_causes b l trips) h 0 4)

    pub line_tokens_short : b.id ≤ 96 → (k : ℕ) → k < l.trip.n → length (id_of p.bytes p.words l.token k) ≤ 96
    unfolding id_of
    line_tokens_short s k h = simp length-take (omega (arith, line_tokens.short k h (all_count p always refl k)))

    pub lines_ascend : Ascend p (IdWord l.token l.trip) l.trip.n
    lines_ascend = ascend p _ _ (at_lines 6).0

    pub line_trips_below : Below p l.trip always l.trip.n trips
    line_trips_below = below p _ _ _ _ (at_lines 4).0 (at_lines 7).0
