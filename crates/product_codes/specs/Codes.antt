-- The product code of a line, in a route id. An empty text stands for none.
use Rattle.std.specs.Prelude.{ℕ, zero, suc, Bool, true, not, ◌&&◌, List, [], ◌∷◌, leb, eqb, length, get_or, take, drop}
use Rattle.ids.specs.Bytes.{is_alnum, upper_of}
use Rattle.ids.specs.First.{first}
use Rattle.texts.specs.Texts.{first_place_ignoring_case}
use Rattle.text_runs.specs.Runs.{alnum_run, digit_run}
use Rattle.parts.specs.Parts.{past, if_long, or_text}

-- LINE::
abbrev pub line_mark : List ℕ
line_mark = 76 ∷ 73 ∷ 78 ∷ 69 ∷ 58 ∷ 58 ∷ []

-- the letters and digits at the beginning
unfoldable pub word : List ℕ → List ℕ
word s = take (alnum_run s) s

-- those after the first "LINE::", in any case; four at least
unfoldable pub line_word : List ℕ → List ℕ
line_word s = if_long 4 (word (past 6 (first_place_ignoring_case line_mark s) s []))

-- five bytes at least: 'C' or 'c', and then digits alone
unfoldable pub is_code : List ℕ → Bool
is_code w = leb 5 (length w) && (eqb (upper_of (get_or w 0 0)) 67 && eqb (digit_run (drop 1 w)) (length (drop 1 w)))

-- a word begins at k: no letter or digit stands before it
unfoldable pub begins_word : List ℕ → ℕ → Bool
begins_word s zero = true
begins_word s (suc k) = not (is_alnum (get_or s k 0))

-- a code begins at k
unfoldable pub code_at : List ℕ → ℕ → Bool
code_at s k = begins_word s k && is_code (word (drop k s))

-- the first word that is a code
unfoldable pub code_word : List ℕ → List ℕ
code_word s = word (past 0 (first (code_at s) (length s)) s [])

-- `line_product_code` of a route id
unfoldable pub product_code : List ℕ → List ℕ
product_code s = or_text (line_word s) (code_word s)
