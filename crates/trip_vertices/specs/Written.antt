-- What is answered of the vertices of a trip's stops, and what is written, where only room is wanting.
use Rattle.std.specs.Prelude.{ℕ, List, [], Float, length, Option, Some, None}
use Rattle.refusals.specs.Answer.{Answer}
use Rattle.answers.specs.Answers.{unless_refused, or_short, unless_kept}
use Rattle.tables.specs.declared.lent.Tables.{Tables}
use Rattle.trip_vertices.specs.Vertices.{trip_vertices}

-- the vertices of the trip found; none where there is none
abbrev pub found_vertices : List ℕ → List ℕ → List Float → Tables → Option ℕ → List ℕ
found_vertices bytes words reals t (Some trip) = trip_vertices bytes words reals t trip
found_vertices bytes words reals t None = []

-- how many words are written, and the output afterwards, where only room is wanting
unfoldable pub room_answer : List ℕ → List ℕ → Answer ℕ
room_answer vertices out = unless_refused (or_short 0 (length vertices) (length out)) (length vertices)

unfoldable pub room_output : List ℕ → List ℕ → List ℕ
room_output vertices out = unless_kept (or_short 0 (length vertices) (length out)) vertices out
