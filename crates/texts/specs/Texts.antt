-- Parts of texts: a text is the list of its bytes.
use Rattle.std.specs.Prelude.{ℕ, zero, suc, ◌-◌, Bool, ◌&&◌, cond, List, map, leb, length, take, drop, Option}
use Rattle.ids.specs.Cmp.{equal}
use Rattle.ids.specs.First.{is_at}
use Rattle.ids.specs.Bytes.{upper_of}
use Rattle.text_folds.specs.Folds.{prefix_of, first_place}

-- s ends with n: its last bytes, as many as n has, begin with n
unfoldable pub suffix_of : List ℕ → List ℕ → Bool
suffix_of n s = leb (length n) (length s) && prefix_of n (drop (length s - length n) s)

-- n stands somewhere in s
unfoldable pub holds : List ℕ → List ℕ → Bool
holds n s = is_at (first_place n s)

-- a and b, both in upper case, are equal
abbrev pub equal_ignoring_case : List ℕ → List ℕ → Bool
equal_ignoring_case a b = equal (map upper_of a) (map upper_of b)

-- the first place where n stands in s, both in upper case
abbrev pub first_place_ignoring_case : List ℕ → List ℕ → Option ℕ
first_place_ignoring_case n s = first_place (map upper_of n) (map upper_of s)

-- the length of s without n at its end, taken away up to m times
unfoldable pub trimmed_times : ℕ → List ℕ → List ℕ → ℕ
trimmed_times zero n s = length s
trimmed_times (suc m) n s = cond (suffix_of n s) (trimmed_times m n (take (length s - length n) s)) (length s)

-- the length of s without n at its end, however often n stands there: no more often than s has bytes
abbrev pub trimmed_text : List ℕ → List ℕ → ℕ
trimmed_text n s = trimmed_times (length s) n s
