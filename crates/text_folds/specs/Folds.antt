-- Where a text stands in another: a text is the list of its bytes.
use Rattle.std.specs.Prelude.{ℕ, ◌+◌, Bool, true, false, ◌&&◌, List, [], ◌∷◌, eqb, length, drop, Option}
use Rattle.ids.specs.First.{first}

-- s begins with n
unfoldable pub prefix_of : List ℕ → List ℕ → Bool
prefix_of [] s = true
prefix_of (x ∷ n) [] = false
prefix_of (x ∷ n) (y ∷ s) = eqb x y && prefix_of n s

-- n stands at k in s
abbrev pub stands_at : List ℕ → List ℕ → ℕ → Bool
stands_at n s k = prefix_of n (drop k s)

-- the first place of s where n stands, the place after the last byte included
unfoldable pub first_place : List ℕ → List ℕ → Option ℕ
first_place n s = first (stands_at n s) (length s + 1)
