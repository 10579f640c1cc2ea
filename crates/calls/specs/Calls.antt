-- The calls that the updates come to: those with a time whose stop is found.
use Rattle.std.specs.Prelude.{ℕ, ◌<◌, ◌≤◌, ◌≡◌, Bool, true, cond, List, map, ℤ, length, Option, None}
use Rattle.ids.specs.Pool.{cell_of, id_of}
use Rattle.ids.specs.First.{is_at, or_at}
use Rattle.key_parts.specs.Keys.{base_of}
use Rattle.tables.specs.declared.lent.Tables.{Tables}
use Rattle.stop_keys.specs.Names.{Known}
use Rattle.stop_ids.specs.Stops.{stop_of}
use Rattle.row_lists.specs.Rows.{passing}
use Rattle.update_rows.specs.Updates.{is_set, is_timed}
use Rattle.update_times.specs.Times.{arrival_of, departure_of}
use Rattle.calls.specs.declared.stop.Reported.{Reported}

module _ (bytes words : List ℕ) (v : Reported) where
  -- ids of stops and of trips ascend, and none of these, the feed and the names is over 96 bytes
  pub record Ready : Type 0 where
    pub known : Known bytes words v.lookup
    pub feed : length (id_of bytes words v.sailing.feed 0) ≤ 96
    pub names : (k : ℕ) → k < v.updates.sequence.n → is_set bytes v.updates.named k ≡ true → length (id_of bytes words v.updates.stop k) ≤ 96

  -- the stop that row k means
  unfoldable pub update_stop : ℕ → Option ℕ
  update_stop k =
      stop_of bytes words v.lookup (id_of bytes words v.sailing.feed 0) (base_of (id_of bytes words v.sailing.key 0))
      (is_set bytes v.updates.named k) (id_of bytes words v.updates.stop k) (cell_of words v.updates.sequence k)

  -- the same, where row k has a time
  unfoldable pub call_stop : ℕ → Option ℕ
  call_stop k = cond (is_timed bytes v.updates k) (update_stop k) None

  -- row k is a call
  abbrev pub is_call : ℕ → Bool
  is_call k = is_at (call_stop k)

  -- the stop of row k, which is a call
  abbrev pub stop_of_call : ℕ → ℕ
  stop_of_call k = or_at 0 (call_stop k)

  -- the rows that are calls, and what they say
  unfoldable pub call_rows : List ℕ
  call_rows = passing is_call v.updates.sequence.n

  unfoldable pub call_stops : List ℕ
  call_stops = map stop_of_call call_rows

  unfoldable pub call_arrivals : List ℤ → List ℕ
  call_arrivals times = map (arrival_of bytes v.updates times) call_rows

  unfoldable pub call_departures : List ℤ → List ℕ
  call_departures times = map (departure_of bytes v.updates times) call_rows

-- what is reported, of all the tables
abbrev pub reported_of : Tables → Reported
reported_of t =
    record {
      lookup = record { stops = t.stops; stopkeys = t.stopkeys; trips = t.trips; tripkeys = t.tripkeys; times = t.times };
      updates = t.updates;
      sailing = t.sailing;
    }
