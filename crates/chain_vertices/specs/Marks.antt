-- A bit a row. Definitions only.
use Rattle.lengths.specs.declared.line.Point.{Point}
use Rattle.std.specs.Prelude.{ℕ, ◌+◌, ◌/◌, ◌%◌, ◌^◌, ◌<◌, Bool, cond, List, ◌≡◌, eqb, get_or, set, Option}
use Rattle.chain_lines.specs.Kept.{row_kept}

-- bit i is set
unfoldable pub is_marked : List ℕ → ℕ → Bool
is_marked marks i = eqb (get_or marks (i / 64) 0 / 2 ^ (i % 64) % 2) 1

-- with bit i as it is to be, of a word that has none from it on
abbrev pub put_of : List ℕ → ℕ → Bool → List ℕ
put_of marks i bit = cond bit (set marks (i / 64) (get_or marks (i / 64) 0 + 2 ^ (i % 64))) marks

-- the marks of n rows: bit i is set where row i is kept
abbrev pub Marked : (ℕ → Option Point) → ℕ → List ℕ → Type 0
Marked stop n marks = (i : ℕ) → i < n → is_marked marks i ≡ row_kept stop i
