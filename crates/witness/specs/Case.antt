-- Document 01's case of the Board, with any clock, as it may be lent: two stops on the equator, a degree apart, and a call at each, at 100 and 400. Definitions only.
use Rattle.std.specs.Prelude.{ℕ, ◌≡◌, false, List, [], ◌∷◌, pos, negsuc, Float, Option, Some, None}
use Rattle.std.specs.Float.{fin}
use Rattle.floats.specs.Number.{nought, one}
use Rattle.ids.specs.declared.pool.IdColumn.{IdColumn}
use Rattle.ids.specs.declared.pool.Span.{Span}
use Rattle.tables.specs.Pools.{Pools, pools}
use Rattle.tables.specs.declared.lent.Tables.{Tables}
use Rattle.refusals.specs.Answer.{given}
use Rattle.ways.specs.declared.way.Way.TheVariants.{With}
use Rattle.paths.specs.declared.path.Line.TheVariants.{Straight}
use Rattle.legs.specs.declared.place.Place.TheVariants.{Call, Stretch}
use Rattle.paths.specs.declared.status.Status.TheVariants.{StoppedAt, InTransitTo}
use Rattle.voyages.specs.declared.record.Placed.{Placed}
use Rattle.estimate.specs.Answers.{estimate_of}
use Rattle.astern.specs.Clocks.{Hypotheses}

-- "f", "t", "f:a", "f:b"; two flags that are set, and two that are not
abbrev bytes : List ℕ
bytes = 102 ∷ 116 ∷ 102 ∷ 58 ∷ 97 ∷ 102 ∷ 58 ∷ 98 ∷ 1 ∷ 1 ∷ 0 ∷ 0 ∷ []

-- where the stops' ids begin, and how long they are; the sequences; the rows of the stops; two zeros
abbrev words : List ℕ
words = 2 ∷ 5 ∷ 3 ∷ 3 ∷ 1 ∷ 2 ∷ 0 ∷ 1 ∷ 0 ∷ 0 ∷ []

-- the moments of the calls, the clock, the offset
abbrev pub case_at : ℕ → Pools
case_at clock = pools bytes words (pos 100 ∷ pos 400 ∷ pos clock ∷ pos 0 ∷ []) (nought ∷ nought ∷ one ∷ []) []

abbrev span : ℕ → ℕ → Span
span at n = record { at = at; n = n }

abbrev ids : Span → Span → IdColumn
ids starts lens = record { starts = starts; lens = lens }

-- no rows
abbrev no : Span
no = span 0 0

abbrev set : Span
set = span 8 2

abbrev unset : Span
unset = span 10 2

abbrev stop_ids : IdColumn
stop_ids = ids (span 0 2) (span 2 2)

abbrev pub case_tables : Tables
case_tables =
    record {
      stops = record { own = stop_ids; raw = ids (span 8 2) (span 8 2); lat = span 0 2; lon = span 1 2; positioned = set };
      stopkeys = record { id = stop_ids; row = span 6 2 };
      trips = record { feed = ids no no; service = ids no no; shape = no; shaped = no; frequency = no; first = no; count = no };
      tripkeys = record { id = ids no no; row = no };
      times = record { sequence = no; stop = no; arrival = no; departure = no; dist = no; measured = no };
      shapes = record { id = ids no no; first = no; count = no };
      points = record { lat = no; lon = no };
      aliases = record { id = ids no no; trip = ids no no };
      lines = record { token = ids no no; trip = no };
      calendars = record { feed = ids no no };
      ranges = record { feed = ids no no; service = ids no no; first = no; last = no; weekdays = no };
      exceptions = record { feed = ids no no; service = ids no no; date = no; removed = no };
      updates = record {
        sequence = span 4 2;
        stop = stop_ids;
        named = set;
        arrival = span 0 2;
        arrives = set;
        departure = span 0 2;
        departs = set;
        arrdelay = span 0 2;
        arrdelayed = unset;
        depdelay = span 0 2;
        depdelayed = unset;
      };
      sailing = record {
        feed = ids (span 6 1) (span 4 1);
        key = ids (span 4 1) (span 4 1);
        route = ids (span 8 1) (span 8 1);
        routed = span 10 1;
        cancelled = span 10 1;
        now = span 2 1;
        offset = span 3 1;
      };
    }

-- a half, and ninety degrees
abbrev pub half : Float
half = fin false 1 (negsuc 0)

abbrev pub east : Float
east = fin false 45 (pos 1)

-- at 100 she is stopped at the first call
abbrev pub at_hundred : Option Placed
at_hundred =
    Some
    (record {
      estimate = record { lat = nought; lon = nought; bearing = None; status = StoppedAt; stop = 0; sequence = 1 };
      place = Call 1;
    })

-- at 250 she is half way along the straight line to the second, in transit to it and bearing east: the line that document 01 has the Board print
abbrev pub at_two_hundred_fifty : Option Placed
at_two_hundred_fifty =
    Some
    (record {
      estimate = record { lat = nought; lon = half; bearing = Some east; status = InTransitTo; stop = 1; sequence = 2 };
      place = Stretch 2 Straight With 0 half;
    })

-- The case meets every hypothesis of demand 3, and its places at the two clocks differ.
pub record Witness : Type 0 where
  pub hypotheses : Hypotheses (case_at 100) (case_at 250) case_tables case_tables
  pub earlier : estimate_of (case_at 100) case_tables ≡ given at_hundred
  pub later : estimate_of (case_at 250) case_tables ≡ given at_two_hundred_fifty
