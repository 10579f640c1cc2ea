-- What is so of a stop that is found. Assumes nothing.
use Rattle.std.specs.Prelude.{Option, Some, None}
use Prim.Native.Nat.{ℕ, ◌+◌, ◌<◌}
use mathlib.Core.Path.{◌≡◌, refl, sym}
use mathlib.Core.Logic.{◌⊎◌, inl, inr, ⊎_elim}
use mathlib.Core.Bool.{Bool, true, false, ◌&&◌, cond}
use mathlib.Core.List.{List, [], ◌∷◌}
use lib.Dec.{eqb}
use Rattle.ids.specs.First.{first, or_else}
use Rattle.ids.specs.Pool.{cell_of, id_of}
use Rattle.ids.specs.Rows.{row_is, row_of}
use Rattle.ids.proofs.ByteOrder.{clash, both}
use Rattle.ids.proofs.Search.{first_found}
use Rattle.tables.specs.declared.lent.Stops.{Stops}
use Rattle.trip_ids.specs.Trips.{trip_at, trip_of}
use Rattle.stop_rows.specs.Rows.{is_positioned, if_positioned, is_row, row_from, stop_from, row_stop}
use Rattle.stop_rows.specs.declared.lookup.Lookup.{Lookup}
use Rattle.stop_keys.specs.Names.{stop_in, stop_at, first_stop, stop_keys, named_stop}
use Rattle.stop_ids.specs.Stops.{row_stop_of, stop_of}

either : (f g : Option ℕ) (s : ℕ) → or_else f g ≡ Some s → (f ≡ Some s) ⊎ (g ≡ Some s)
either (Some k) g s e = inl e
either None g s e = inr e

if_set : (b : Bool) (f : Option ℕ) (s : ℕ) → cond b f None ≡ Some s → f ≡ Some s
if_set true f s e = e
if_set false f s e = clash (cc)

-- A row of an id that is found is one of the table's.
found_below : (row : ℕ → List ℕ) (n : ℕ) (key : List ℕ) (k : ℕ) → row_of row n key ≡ Some k → k < n
unfolding row_of
found_below row n key k e = (first_found (row_is row key) n k e).0

module _ (bytes : List ℕ) (stops : Stops) where
  with_position : (stop s : ℕ) → if_positioned bytes stops stop ≡ Some s → (stop ≡ s) × (is_positioned bytes stops s ≡ true)
  with_position stop s e = go (is_positioned bytes stops stop) refl e where
    go : (b : Bool) → is_positioned bytes stops stop ≡ b → cond b (Some stop) None ≡ Some s → (stop ≡ s) × (is_positioned bytes stops s ≡ true)
    go true p q = let h : stop ≡ s = cc in (h, rw (← h) p)
    go false p q = clash (cc)

-- What is so of the number in each row of the stop ids, and of the stop of each row of each trip, is so of the stop found; and that has a position.
module _ (bytes words : List ℕ) (l : Lookup) (Q : ℕ → Type 0)
    (of_names : (k : ℕ) → k < l.stopkeys.id.starts.n → Q (cell_of words l.stopkeys.row k))
    (of_rows : (j k : ℕ) → j < l.tripkeys.id.starts.n → k < cell_of words l.trips.count (cell_of words l.tripkeys.row j) →
    Q (cell_of words l.times.stop (cell_of words l.trips.first (cell_of words l.tripkeys.row j) + k))) where
  abbrev Holds : ℕ → Type 0
  Holds s = (is_positioned bytes l.stops s ≡ true) × Q s

  at_holds : (key : List ℕ) (s : ℕ) → stop_at bytes words l key ≡ Some s → Holds s
  unfolding stop_at
  at_holds key s e = go (row_of (id_of bytes words l.stopkeys.id) l.stopkeys.id.starts.n key) refl e where
    go : (f : Option ℕ) → row_of (id_of bytes words l.stopkeys.id) l.stopkeys.id.starts.n key ≡ f → stop_in bytes words l f ≡ Some s → Holds s
    go (Some k) p q =
        let h = with_position bytes l.stops (cell_of words l.stopkeys.row k) s q in
        (h.1, rw h.0 at (of_names k (found_below (id_of bytes words l.stopkeys.id) l.stopkeys.id.starts.n key k p)))
    go None p q = clash (cc)

  first_holds : (keys : List (List ℕ)) (s : ℕ) → first_stop bytes words l keys ≡ Some s → Holds s
  unfolding first_stop
  first_holds [] s e = clash (cc)
  first_holds (key ∷ keys) s e = ⊎_elim (at_holds key s) (first_holds keys s) (either (stop_at bytes words l key) (first_stop bytes words l keys) s e)

  named_holds : (feed name : List ℕ) (s : ℕ) → named_stop bytes words l feed name ≡ Some s → Holds s
  unfolding named_stop
  named_holds feed name s e = first_holds (stop_keys feed name) s e

  row_positioned : (sequence k : ℕ) → is_row bytes words l sequence k ≡ true → is_positioned bytes l.stops (cell_of words l.times.stop k) ≡ true
  unfolding is_row
  row_positioned sequence k e = (both (eqb (cell_of words l.times.sequence k) sequence) (is_positioned bytes l.stops (cell_of words l.times.stop k)) e).1

  row_holds : (j sequence s : ℕ) → j < l.tripkeys.id.starts.n → row_stop bytes words l (cell_of words l.tripkeys.row j) sequence ≡ Some s → Holds s
  unfolding row_stop
  row_holds j sequence s m e = go (first p n) refl e where
    trip : ℕ
    trip = cell_of words l.tripkeys.row j

    from : ℕ
    from = cell_of words l.trips.first (cell_of words l.tripkeys.row j)

    n : ℕ
    n = cell_of words l.trips.count (cell_of words l.tripkeys.row j)

    p : ℕ → Bool
    p = row_from bytes words l sequence (cell_of words l.trips.first (cell_of words l.tripkeys.row j))

    go : (f : Option ℕ) → first p n ≡ f → stop_from bytes words l from f ≡ Some s → Holds s
    go (Some k) a b =
        let h = first_found p n k a in
        let q : cell_of words l.times.stop (from + k) ≡ s = cc in
        (rw q at (row_positioned sequence (from + k) h.1), rw q at (of_rows j k m h.0))
    go None a b = clash (cc)

  trip_holds : (base : List ℕ) (sequence s : ℕ) → row_stop_of bytes words l (trip_of bytes words l.tripkeys base) sequence ≡ Some s → Holds s
  unfolding trip_of
  trip_holds base sequence s e = go (row_of (id_of bytes words l.tripkeys.id) l.tripkeys.id.starts.n base) refl e where
    go : (f : Option ℕ) → row_of (id_of bytes words l.tripkeys.id) l.tripkeys.id.starts.n base ≡ f →
        row_stop_of bytes words l (trip_at words l.tripkeys.row f) sequence ≡ Some s → Holds s
    go (Some j) p q = row_holds j sequence s (found_below (id_of bytes words l.tripkeys.id) l.tripkeys.id.starts.n base j p) q
    go None p q = clash (cc)

  pub stop_holds : (feed base : List ℕ) (named : Bool) (name : List ℕ) (sequence s : ℕ) → stop_of bytes words l feed base named name sequence ≡ Some s →
      (is_positioned bytes l.stops s ≡ true) × Q s
  unfolding stop_of
  stop_holds feed base named name sequence s e =
      ⊎_elim (λ p. named_holds feed name s (if_set named (named_stop bytes words l feed name) s p)) (trip_holds base sequence s)
      (either (cond named (named_stop bytes words l feed name) None) (row_stop_of bytes words l (trip_of bytes words l.tripkeys base) sequence) s e)
