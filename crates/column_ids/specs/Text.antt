-- Faults of texts.
use Rattle.std.specs.Prelude.{ℕ, Bool, ◌||◌, ◌&&◌, not, List, ltb, eqb, length, get_or, take, drop}
use Rattle.columns.specs.Rows.{some}

-- byte k is outside 32..126
unfoldable pub bad_byte_at : List ℕ → ℕ → Bool
bad_byte_at s k = ltb (get_or s k 0) 32 || ltb 126 (get_or s k 0)

-- some byte is
unfoldable pub bad_text : List ℕ → Bool
bad_text s = some (bad_byte_at s) (length s)

-- the same for an id, which is at fault too where it is empty, unless empty ids are allowed
unfoldable pub bad_id : Bool → List ℕ → Bool
bad_id empty s = bad_text s || (eqb (length s) 0 && not empty)

-- id k: lens[k] bytes from starts[k] on
abbrev pub id_at : List ℕ → List ℕ → List ℕ → ℕ → List ℕ
id_at bytes starts lens k = take (get_or lens k 0) (drop (get_or starts k 0) bytes)

-- id k is at fault
unfoldable pub bad_id_at : List ℕ → List ℕ → List ℕ → Bool → ℕ → Bool
bad_id_at bytes starts lens empty k = bad_id empty (id_at bytes starts lens k)
