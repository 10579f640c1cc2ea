-- Parts of a text. A place past its end is its end.
use Rattle.std.specs.Prelude.{ℕ, cond, List, [], ◌∷◌, leb, length, take, drop, Option, Some, None}
use Rattle.text_runs.specs.Runs.{last_byte}

-- the text before the place, or the other text
abbrev pub up_to : Option ℕ → List ℕ → List ℕ → List ℕ
up_to (Some k) s t = take k s
up_to None s t = t

-- the text from n bytes after the place on, or the other text
abbrev pub past : ℕ → Option ℕ → List ℕ → List ℕ → List ℕ
past n (Some k) s t = drop n (drop k s)
past n None s t = t

-- the text after the last byte b, or all of it
abbrev pub after_last : ℕ → List ℕ → List ℕ
after_last b s = past 1 (last_byte s b) s s

-- a text if it has that many bytes, or none
abbrev pub if_long : ℕ → List ℕ → List ℕ
if_long n s = cond (leb n (length s)) s []

-- the first that is not empty
abbrev pub or_text : List ℕ → List ℕ → List ℕ
or_text [] t = t
or_text (b ∷ s) t = b ∷ s
