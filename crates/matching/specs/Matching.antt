-- The trip that a journey stands for: every way in its turn.
use Rattle.std.specs.Prelude.{ℕ, Bool, cond, List, [], ◌∷◌, map, Option, None}
use Rattle.ids.specs.Bytes.{upper_of}
use Rattle.ids.specs.First.{or_else}
use Rattle.tokens.specs.Tokens.{token_of}
use Rattle.alias_keys.specs.Aliases.{Known}
use Rattle.named_trips.specs.Named.{id_trip}
use Rattle.trip_tails.specs.Tails.{tail_trip}
use Rattle.trip_fits.specs.Plans.{Planned}
use Rattle.trip_times.specs.Line.{line_trip, ShortTokens}
use Rattle.departure_fits.specs.declared.departure.Count.{Count}
use Rattle.trip_fits.specs.declared.fit.Plan.{Plan}
use Rattle.matching.specs.declared.whole.Named.{Named}

module _ (bytes words : List ℕ) where
  -- the tables ascend, and their ids are short
  pub record Ready (n : Named) (p : Plan) : Type 0 where
    pub known : Known bytes words n.tripkeys n.aliases
    pub planned : Planned bytes words p
    pub short : ShortTokens bytes words p

  -- the trip of the line with the token, in upper case; a journey without a token has none
  abbrev pub token_trip : Plan → List ℕ → Count → Count → Option ℕ
  token_trip p [] today yesterday = None
  token_trip p (x ∷ token) today yesterday = line_trip bytes words p (map upper_of (x ∷ token)) today yesterday

  -- by line and time, where there is a first departure
  unfoldable pub timed_trip : Plan → List ℕ → List ℕ → Bool → Count → Count → Option ℕ
  timed_trip p base route departs today yesterday = cond departs (token_trip p (token_of route base) today yesterday) None

  -- as an id, by its aliases, by an id made of its parts; by line and time; by its tail
  unfoldable pub match_of : Named → Plan → List ℕ → List ℕ → Bool → Count → Count → Option ℕ
  match_of n p base route departs today yesterday =
      or_else (id_trip bytes words n.tripkeys n.aliases base)
      (or_else (timed_trip p base route departs today yesterday) (tail_trip bytes words n.tripkeys base))
