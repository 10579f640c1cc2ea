-- Where a byte stands in a text, and how far a run of bytes goes: a text is the list of its bytes.
use Rattle.std.specs.Prelude.{ℕ, ◌+◌, Bool, not, List, eqb, length, get_or, Option, Some, None}
use Rattle.ids.specs.declared.byte.Kind.TheVariants.{Byte}
use Rattle.ids.specs.First.{first, last, or_at}
use Rattle.ids.specs.Bytes.{is_digit, is_alnum, is_of}

-- byte k of s is b
abbrev pub byte_is : List ℕ → ℕ → ℕ → Bool
byte_is s b k = eqb (get_or s k 0) b

-- the first k at which s has the byte b
unfoldable pub first_byte : List ℕ → ℕ → Option ℕ
first_byte s b = first (byte_is s b) (length s)

-- the last k at which s has the byte b
unfoldable pub last_byte : List ℕ → ℕ → Option ℕ
last_byte s b = last (byte_is s b) (length s)

-- byte k of s fails the test
abbrev pub fails_at : (ℕ → Bool) → List ℕ → ℕ → Bool
fails_at p s k = not (p (get_or s k 0))

-- the place after the one found, or 0 where there is none
abbrev pub after : Option ℕ → ℕ
after (Some k) = k + 1
after None = 0

-- how many bytes at the beginning pass the test: those before the first that fails, or all
unfoldable pub run_of : (ℕ → Bool) → List ℕ → ℕ
run_of p s = or_at (length s) (first (fails_at p s) (length s))

-- how many bytes are left without those at the end that pass: up to the last that fails, or none
unfoldable pub kept_of : (ℕ → Bool) → List ℕ → ℕ
kept_of p s = after (last (fails_at p s) (length s))

-- where the digits at the end begin
abbrev pub digits_at : List ℕ → ℕ
digits_at s = kept_of is_digit s

-- the length of s without the byte b at its end
abbrev pub trimmed_of : List ℕ → ℕ → ℕ
trimmed_of s b = kept_of (is_of (Byte b)) s

-- how many digits stand at the beginning
abbrev pub digit_run : List ℕ → ℕ
digit_run s = run_of is_digit s

-- how many letters and digits stand at the beginning
abbrev pub alnum_run : List ℕ → ℕ
alnum_run s = run_of is_alnum s
