-- Trip keys less what stands at their ends. Each part is itself a text of the key; an empty text stands for none.
use Rattle.std.specs.Prelude.{ℕ, ◌-◌, ◌||◌, cond, List, [], length, take, drop}
use Rattle.texts.specs.Texts.{suffix_of, trimmed_text}
use Rattle.text_runs.specs.Runs.{last_byte, trimmed_of}
use Rattle.text_folds.specs.Folds.{prefix_of}
use Rattle.parts.specs.Parts.{up_to, after_last, if_long}
use Rattle.key_parts.specs.Words.{loc, low_feed, high_feed}

-- a trip key before its last '@', or all of it: the base key
abbrev pub base_of : List ℕ → List ℕ
base_of key = up_to (last_byte key 64) key key

-- less one "idfm:" or "IDFM:" at the beginning
abbrev pub raw_of : List ℕ → List ℕ
raw_of s = cond (prefix_of low_feed s || prefix_of high_feed s) (drop 5 s) s

-- less one ":LOC" at the end
abbrev pub without_loc : List ℕ → List ℕ
without_loc s = cond (suffix_of loc s) (take (length s - 4) s) s

-- less every ':' at the end
abbrev pub without_colons : List ℕ → List ℕ
without_colons s = take (trimmed_of s 58) s

-- less every ":LOC" at the end
abbrev pub without_locs : List ℕ → List ℕ
without_locs s = take (trimmed_text loc s) s

-- the tail of a base key by which a trip id may be known
unfoldable pub tail_of : List ℕ → List ℕ
tail_of s = if_long 6 (after_last 58 (without_loc (without_colons s)))
