-- The stop that a name stands for: by its text, or by the digits in it. A stop is the number that a row of the stop ids has; one without a position is as none.
use Rattle.std.specs.Prelude.{ℕ, cond, List, [], ◌∷◌, ◌++◌, eqb, length, Option, Some, None}
use Rattle.ids.specs.First.{or_else}
use Rattle.ids.specs.Pool.{cell_of, id_of}
use Rattle.ids.specs.Rows.{row_of, GoodIds}
use Rattle.texts.specs.Texts.{holds}
use Rattle.stop_digits.specs.Stops.{stop_digits_of}
use Rattle.key_parts.specs.Words.{low_feed, high_feed}
use Rattle.stop_rows.specs.Rows.{if_positioned}
use Rattle.stop_rows.specs.declared.lookup.Lookup.{Lookup}
use Rattle.stop_keys.specs.Words.{place_mark, point_mark}

-- the keys of digits that begin with the feed
abbrev pub feed_keys : List ℕ → List ℕ → List (List ℕ)
feed_keys feed d =
    (feed ++ (58 ∷ d))
    ∷ (feed ++ (58 ∷ high_feed ++ d))
    ∷ (feed ++ (58 ∷ place_mark ++ d))
    ∷ (feed ++ (58 ∷ high_feed ++ (point_mark ++ d))) ∷ []

-- the others
abbrev pub plain_keys : List ℕ → List (List ℕ)
plain_keys d =
    (high_feed ++ d)
    ∷ (place_mark ++ d)
    ∷ (point_mark ++ d)
    ∷ d
    ∷ (low_feed ++ (place_mark ++ d))
    ∷ (low_feed ++ (high_feed ++ d)) ∷ []

-- the keys of digits; none where there are none. `resolve_stop_coords` tries two of those with the feed again, which changes no answer
unfoldable pub digit_keys : List ℕ → List ℕ → List (List ℕ)
digit_keys feed d = cond (eqb (length d) 0) [] (feed_keys feed d ++ plain_keys d)

-- the keys of a text: itself, and those of its digits
unfoldable pub text_keys : List ℕ → List ℕ → List (List ℕ)
text_keys feed text = text ∷ digit_keys feed (stop_digits_of text)

-- the keys of a stop's name: its own and, where it has no ':', those of the feed, ':' and the name
unfoldable pub stop_keys : List ℕ → List ℕ → List (List ℕ)
stop_keys feed s = text_keys feed s ++ cond (holds (58 ∷ []) s) [] (text_keys feed (feed ++ (58 ∷ s)))

module _ (bytes words : List ℕ) (l : Lookup) where
  -- ids of stops and of trips ascend, and none is over 96 bytes
  pub record Known : Type 0 where
    pub stop_ids : GoodIds (id_of bytes words l.stopkeys.id) l.stopkeys.id.starts.n
    pub trip_ids : GoodIds (id_of bytes words l.tripkeys.id) l.tripkeys.id.starts.n

  -- the stop of the row found
  abbrev pub stop_in : Option ℕ → Option ℕ
  stop_in (Some k) = if_positioned bytes l.stops (cell_of words l.stopkeys.row k)
  stop_in None = None

  -- the stop whose id is the key
  unfoldable pub stop_at : List ℕ → Option ℕ
  stop_at key = stop_in (row_of (id_of bytes words l.stopkeys.id) l.stopkeys.id.starts.n key)

  -- the stop of the first key that stands for one
  unfoldable pub first_stop : List (List ℕ) → Option ℕ
  first_stop [] = None
  first_stop (key ∷ keys) = or_else (stop_at key) (first_stop keys)

  -- the stop that a name stands for
  unfoldable pub named_stop : List ℕ → List ℕ → Option ℕ
  named_stop feed s = first_stop (stop_keys feed s)
