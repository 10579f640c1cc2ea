-- What is so of the number in each row of the trip ids and of the lines is so of the trip that is matched. Assumes nothing.
use Rattle.std.specs.Prelude.{Option, Some, None}
use Prim.Native.Nat.{ℕ, zero, suc, ◌<◌}
use native.Mathlib.Omega.{arith}
use mathlib.Core.Path.{◌≡◌, refl}
use mathlib.Core.Logic.{◌⊎◌, inl, inr, ⊎_elim}
use mathlib.Core.Bool.{Bool, true, false, cond}
use mathlib.Core.List.{List, [], ◌∷◌, map}
use lib.Dec.{eqb, ltb}
use lib.ListN.{length}
use Rattle.ids.specs.Bytes.{upper_of}
use Rattle.ids.specs.First.{first, or_else}
use Rattle.ids.specs.Pool.{cell_of, id_of}
use Rattle.ids.specs.Rows.{row_is, row_of}
use Rattle.ids.proofs.ByteOrder.{clash}
use Rattle.ids.proofs.Search.{first_found}
use Rattle.key_parts.specs.Keys.{tail_of}
use Rattle.refs.specs.Refs.{journey_id_of}
use Rattle.uuids.specs.Uuids.{is_uuid}
use Rattle.tokens.specs.Tokens.{token_of}
use Rattle.tables.specs.declared.lent.Aliases.{Aliases}
use Rattle.tables.specs.declared.lent.IdRows.{IdRows}
use Rattle.trip_ids.specs.Trips.{unless, trip_at, trip_of}
use Rattle.alias_keys.specs.Aliases.{keys_of, named_at, alias_trip, first_trip}
use Rattle.made_ids.specs.Made.{built_of}
use Rattle.named_trips.specs.Named.{id_trip}
use Rattle.trip_tails.specs.Tails.{tail_row, tail_first, only_trip, tail_trip}
use Rattle.departure_fits.specs.Departures.{away}
use Rattle.line_fits.specs.Lines.{row_fit, least_of, best_of}
use Rattle.line_crowds.specs.Crowds.{is_crowded}
use Rattle.trip_times.specs.Line.{alone, line_trip}
use Rattle.trip_times.specs.Line.{trip_at as line_at}
use Rattle.departure_fits.specs.declared.departure.Count.{Count}
use Rattle.departure_fits.specs.declared.departure.Fit.{Fit}
use Rattle.trip_fits.specs.declared.fit.Plan.{Plan}
use Rattle.matching.specs.Matching.{token_trip, timed_trip, match_of}
use Rattle.matching.specs.declared.whole.Named.{Named}

either : (f g : Option ℕ) (s : ℕ) → or_else f g ≡ Some s → (f ≡ Some s) ⊎ (g ≡ Some s)
either (Some k) g s e = inl e
either None g s e = inr e

if_set : (b : Bool) (f : Option ℕ) (s : ℕ) → cond b f None ≡ Some s → f ≡ Some s
if_set true f s e = e
if_set false f s e = clash (cc)

if_unset : (b : Bool) (f : Option ℕ) (s : ℕ) → cond b None f ≡ Some s → f ≡ Some s
if_unset true f s e = clash (cc)
if_unset false f s e = e

-- the best of n rows is one of them
best_below : (fits : ℕ → Option Fit) (n b : ℕ) → best_of fits n ≡ Some b → b < n
unfolding best_of
best_below fits zero b e = clash (cc)
best_below fits (suc n) b e = go (best_below fits n b) (ltb (away (fits n)) (least_of fits (best_of fits n))) e
  where
    go : (best_of fits n ≡ Some b → b < n) → (c : Bool) → cond c (Some n) (best_of fits n) ≡ Some b → b < suc n
    go before true q = let h : n ≡ b = cc in omega arith
    go before false q = let h = before q in omega arith

alone_is : (fits : ℕ → Option Fit) (n : ℕ) (f : Option ℕ) (b : ℕ) → alone fits n f ≡ Some b → f ≡ Some b
alone_is fits n (Some k) b e = if_unset (is_crowded fits n k) (Some k) b e
alone_is fits n None b e = e

module _ (bytes words : List ℕ) (Q : ℕ → Type 0) where
  module _ (tripkeys : IdRows) (of_ids : (k : ℕ) → k < tripkeys.id.starts.n → Q (cell_of words tripkeys.row k)) where
    row_holds : (p : ℕ → Bool) (s : ℕ) → trip_at words tripkeys.row (first p tripkeys.id.starts.n) ≡ Some s → Q s
    row_holds p s e = go (first p tripkeys.id.starts.n) refl e
      where
        go : (f : Option ℕ) → first p tripkeys.id.starts.n ≡ f → trip_at words tripkeys.row f ≡ Some s → Q s
        go (Some k) a b = let h : cell_of words tripkeys.row k ≡ s = cc in rw h at (of_ids k (first_found p tripkeys.id.starts.n k a).0)
        go None a b = clash (cc)

    -- whose id is the key
    pub id_holds : (key : List ℕ) (s : ℕ) → trip_of bytes words tripkeys key ≡ Some s → Q s
    unfolding trip_of row_of
    id_holds key s e = row_holds (row_is (id_of bytes words tripkeys.id) key) s e

    built_holds : (base : List ℕ) (s : ℕ) → built_of bytes words tripkeys base ≡ Some s → Q s
    unfolding built_of
    built_holds base s e = id_holds _ s (if_set (is_uuid (journey_id_of base)) _ s e)

    unless_is : (f g : Option ℕ) (s : ℕ) → unless f g ≡ Some s → g ≡ Some s
    unless_is (Some k) g s e = clash (cc)
    unless_is None g s e = e

    tail_holds : (base : List ℕ) (s : ℕ) → tail_trip bytes words tripkeys base ≡ Some s → Q s
    unfolding tail_trip only_trip
    tail_holds base s e = row_holds (tail_row bytes words tripkeys (tail_of base) None) s (unless_is other trip s (if_unset (eqb (length (tail_of base)) 0) (unless other trip) s e))
      where
        trip : Option ℕ
        trip = trip_at words tripkeys.row (tail_first bytes words tripkeys (tail_of base) None)

        other : Option ℕ
        other = tail_first bytes words tripkeys (tail_of base) (trip_at words tripkeys.row (tail_first bytes words tripkeys (tail_of base) None))

    module _ (aliases : Aliases) where
      alias_holds : (key : List ℕ) (s : ℕ) → alias_trip bytes words tripkeys aliases key ≡ Some s → Q s
      unfolding alias_trip
      alias_holds key s e = go (row_of (id_of bytes words aliases.id) aliases.id.starts.n key) e
        where
          go : (f : Option ℕ) → named_at bytes words tripkeys aliases f ≡ Some s → Q s
          go (Some k) q = id_holds (id_of bytes words aliases.trip k) s q
          go None q = clash (cc)

      first_holds : (keys : List (List ℕ)) (s : ℕ) → first_trip bytes words tripkeys aliases keys ≡ Some s → Q s
      unfolding first_trip
      first_holds [] s e = clash (cc)
      first_holds (key ∷ keys) s e = ⊎_elim (alias_holds key s) (first_holds keys s) (either (alias_trip bytes words tripkeys aliases key) (first_trip bytes words tripkeys aliases keys) s e)

      names_holds : (base : List ℕ) (s : ℕ) → id_trip bytes words tripkeys aliases base ≡ Some s → Q s
      unfolding id_trip
      names_holds base s e =
          ⊎_elim (id_holds base s) (λ q. ⊎_elim (first_holds (keys_of base) s) (built_holds base s) (either (first_trip bytes words tripkeys aliases (keys_of base)) (built_of bytes words tripkeys base) s q))
          (either (trip_of bytes words tripkeys base) _ s e)

  module _ (p : Plan) (of_lines : (k : ℕ) → k < p.lines.trip.n → Q (cell_of words p.lines.trip k)) where
    line_holds : (token : List ℕ) (today yesterday : Count) (s : ℕ) → line_trip bytes words p token today yesterday ≡ Some s → Q s
    unfolding line_trip
    line_holds token today yesterday s e = go (alone fits p.lines.trip.n (best_of fits p.lines.trip.n)) refl e
      where
        fits : ℕ → Option Fit
        fits = row_fit bytes words p token today yesterday

        go : (f : Option ℕ) → alone (row_fit bytes words p token today yesterday) p.lines.trip.n (best_of (row_fit bytes words p token today yesterday) p.lines.trip.n) ≡ f → line_at words p f ≡ Some s → Q s
        go (Some k) a b =
            let h : cell_of words p.lines.trip k ≡ s = cc in
            rw h at (of_lines k (best_below (row_fit bytes words p token today yesterday) p.lines.trip.n k (alone_is (row_fit bytes words p token today yesterday) p.lines.trip.n _ k a)))
        go None a b = clash (cc)

    token_holds : (token : List ℕ) (today yesterday : Count) (s : ℕ) → token_trip bytes words p token today yesterday ≡ Some s → Q s
    token_holds [] today yesterday s e = clash (cc)
    token_holds (x ∷ token) today yesterday s e = line_holds (map upper_of (x ∷ token)) today yesterday s e

    timed_holds : (base route : List ℕ) (departs : Bool) (today yesterday : Count) (s : ℕ) → timed_trip bytes words p base route departs today yesterday ≡ Some s → Q s
    unfolding timed_trip
    timed_holds base route departs today yesterday s e = token_holds (token_of route base) today yesterday s (if_set departs _ s e)

  -- whichever way it is found
  pub match_holds : (n : Named) (p : Plan) → ((k : ℕ) → k < n.tripkeys.id.starts.n → Q (cell_of words n.tripkeys.row k)) →
      ((k : ℕ) → k < p.lines.trip.n → Q (cell_of words p.lines.trip k)) →
      (base route : List ℕ) (departs : Bool) (today yesterday : Count) (s : ℕ) → match_of bytes words n p base route departs today yesterday ≡ Some s → Q s
  unfolding match_of
  match_holds n p of_ids of_lines base route departs today yesterday s e =
      ⊎_elim (names_holds n.tripkeys of_ids n.aliases base s)
      (λ q. ⊎_elim (timed_holds p of_lines base route departs today yesterday s) (tail_holds n.tripkeys of_ids base s) (either (timed_trip bytes words p base route departs today yesterday) _ s q))
      (either (id_trip bytes words n.tripkeys n.aliases base) _ s e)
