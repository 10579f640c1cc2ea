-- The digits of a stop's text, by which the stop may be known. An empty text stands for none.
use Rattle.std.specs.Prelude.{ℕ, List, [], ◌∷◌, take, drop}
use Rattle.text_runs.specs.Runs.{digit_run, digits_at}
use Rattle.text_folds.specs.Folds.{first_place}
use Rattle.parts.specs.Parts.{past, if_long, or_text}

-- :Q:
abbrev pub stop_mark : List ℕ
stop_mark = 58 ∷ 81 ∷ 58 ∷ []

-- the digits at the beginning
unfoldable pub digits_first : List ℕ → List ℕ
digits_first s = take (digit_run s) s

-- those after the first ":Q:"; four at least
unfoldable pub marked_digits : List ℕ → List ℕ
marked_digits s = if_long 4 (digits_first (past 3 (first_place stop_mark s) s []))

-- the digits at the end; four at least
unfoldable pub digits_last : List ℕ → List ℕ
digits_last s = if_long 4 (drop (digits_at s) s)

-- those after the first ":Q:", or else those at the end
unfoldable pub stop_digits_of : List ℕ → List ℕ
stop_digits_of s = or_text (marked_digits s) (digits_last s)
