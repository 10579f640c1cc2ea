-- Whether a journey id is a UUID.
use Rattle.std.specs.Prelude.{ℕ, Bool, ◌&&◌, List, eqb, length, get_or, take, drop}
use Rattle.ids.specs.declared.byte.Kind.TheVariants.{Byte}
use Rattle.ids.specs.Bytes.{is_of}
use Rattle.text_runs.specs.Runs.{run_of, trimmed_of}

-- without spaces at the beginning, and then at the end
abbrev pub bare : List ℕ → List ℕ
bare s = let t = drop (run_of (is_of (Byte 32)) s) s in take (trimmed_of t 32) t

-- byte k of s is '-'
abbrev pub dash_at : List ℕ → ℕ → Bool
dash_at s k = eqb (get_or s k 0) 45

-- 36 bytes with four dashes at the places of a UUID
abbrev pub dashed : List ℕ → Bool
dashed s = eqb (length s) 36 && (dash_at s 8 && (dash_at s 13 && (dash_at s 18 && dash_at s 23)))

-- the same between spaces
unfoldable pub is_uuid : List ℕ → Bool
is_uuid j = dashed (bare j)
