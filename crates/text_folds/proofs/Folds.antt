-- What a loop over two texts sees next, and that what is found in a text lies in it. Assumes nothing.
use Rattle.std.specs.Prelude.{Some, None}
use Prim.Native.Nat.{ℕ, ◌<◌, ◌≤◌, ◌+◌, ◌-◌}
use native.Mathlib.Omega.{arith}
use mathlib.Core.Path.{◌≡◌, refl, sym, ap, ◌∙◌}
use mathlib.Core.Bool.{Bool, true, false, ◌&&◌}
use mathlib.Core.List.{List, [], ◌∷◌, map}
use Rattle.std.specs.Char.{to_ascii_lowercase, to_ascii_uppercase}
use Rattle.std.specs.Cmp.Lexicographic.{pointwise}
use Rattle.std.specs.List.{starts_with}
use Rattle.std.proofs.lemmas.Bool.Decides.{nat_tests}
use Rattle.std.proofs.lemmas.List.{drop-map, take-map}
use Rattle.std.proofs.lemmas.Str.Ascii.{lowercase-uppercase}
use Rattle.ids.specs.Bytes.{upper_of}
use lib.ListN.{length, take, drop, length-drop, length-map}
use lib.Dec.{eqb}
use Rattle.ids.specs.Cmp.{equal}
use Rattle.ids.proofs.ByteOrder.{clash, both, equal_iff}
use Rattle.ids.proofs.Pools.{rest}
use Rattle.ids.proofs.Search.{first_miss, first_hit, first_found}
use Rattle.text_folds.specs.Folds.{prefix_of, stands_at, first_place}

-- The library's comparisons of texts.
pub equal_pointwise : (a b : List ℕ) → pointwise eqb a b ≡ equal a b
unfolding equal
equal_pointwise [] [] = refl
equal_pointwise [] (y ∷ b) = refl
equal_pointwise (x ∷ a) [] = refl
equal_pointwise (x ∷ a) (y ∷ b) = ap (λ t. eqb x y && t) (equal_pointwise a b)

pub prefix_taken : (n s : List ℕ) → equal n (take (length n) s) ≡ prefix_of n s
unfolding equal prefix_of
prefix_taken [] s = refl
prefix_taken (x ∷ n) [] = refl
prefix_taken (x ∷ n) (y ∷ s) = ap (λ t. eqb x y && t) (prefix_taken n s)

pub starts_prefix : (n s : List ℕ) → starts_with eqb s n ≡ prefix_of n s
starts_prefix n s = equal_pointwise n (take (length n) s) ∙ prefix_taken n s

-- Texts that are the same in lower case are so in upper case.
upper_is : (x : ℕ) → upper_of x ≡ to_ascii_uppercase x
unfolding upper_of
upper_is x = grind (arith, nat_tests)

upper_lower : (x : ℕ) → to_ascii_uppercase (to_ascii_lowercase x) ≡ to_ascii_uppercase x
upper_lower x = grind (arith, nat_tests)

uppers : (s : List ℕ) → map upper_of s ≡ map to_ascii_uppercase (map to_ascii_lowercase s)
uppers [] = refl
uppers (x ∷ s) = simp (upper_is x, upper_lower x, uppers s)

lowers : (s : List ℕ) → map to_ascii_lowercase (map upper_of s) ≡ map to_ascii_lowercase s
lowers [] = refl
lowers (x ∷ s) = simp (upper_is x, lowercase-uppercase x, lowers s)

pub equal_if : (a b : List ℕ) → map to_ascii_lowercase a ≡ map to_ascii_lowercase b → equal (map upper_of a) (map upper_of b) ≡ true
equal_if a b h = (equal_iff (map upper_of a) (map upper_of b)).1 (uppers a ∙ ap (map to_ascii_uppercase) h ∙ sym (uppers b))

pub equal_only_if : (a b : List ℕ) → equal (map upper_of a) (map upper_of b) ≡ true → map to_ascii_lowercase a ≡ map to_ascii_lowercase b
equal_only_if a b e = sym (lowers a) ∙ ap (map to_ascii_lowercase) ((equal_iff (map upper_of a) (map upper_of b)).0 e) ∙ lowers b

pub prefix_upper : (n s : List ℕ) → prefix_of (map upper_of n) (map upper_of s) ≡ equal (map upper_of n) (map upper_of (take (length n) s))
prefix_upper n s =
    sym (prefix_taken (map upper_of n) (map upper_of s))
    ∙ ap (equal (map upper_of n)) (ap (λ k. take k (map upper_of s)) (length-map n upper_of) ∙ take-map upper_of (length n) s)

pub prefix_long : (f : ℕ → ℕ) (n s : List ℕ) → length s < length n → false ≡ prefix_of (map f n) (map f s)
unfolding prefix_of
prefix_long f [] s l = absurd (omega arith)
prefix_long f (x ∷ n) [] l = refl
prefix_long f (x ∷ n) (y ∷ s) l = grind (arith, prefix_long f n s (omega arith))

-- Both texts through f, byte by byte.
module _ (f : ℕ → ℕ) where
  -- A loop over the places of s.
  module _ (n s : List ℕ) (k : ℕ) where
    pub stands : {r : Bool} → r ≡ prefix_of (map f n) (map f (take (length s - k) (drop k s))) → stands_at (map f n) (map f s) k ≡ r
    stands e = sym (e ∙ ap (prefix_of (map f n)) (ap (map f) (rest s k) ∙ sym (drop-map f k s)))

    pub place_hit : k ≤ length s → stands_at (map f n) (map f s) k ≡ true → ((j : ℕ) → j < k → stands_at (map f n) (map f s) j ≡ false) → Some k ≡ first_place (map f n) (map f s)
    unfolding first_place
    place_hit l t h = first_hit (stands_at (map f n) (map f s)) (length (map f s) + 1) k (omega (arith, length-map s f)) t h

    pub place_miss : length s < k → ((j : ℕ) → j < k → stands_at (map f n) (map f s) j ≡ false) → None ≡ first_place (map f n) (map f s)
    unfolding first_place
    place_miss l h = first_miss (stands_at (map f n) (map f s)) (length (map f s) + 1) (λ j m. h j (omega (arith, length-map s f)))

-- What is found in a text lies in it.
pub prefix_fits : (n s : List ℕ) → prefix_of n s ≡ true → length n ≤ length s
unfolding prefix_of
prefix_fits [] s e = omega arith
prefix_fits (x ∷ n) [] e = clash (cc)
prefix_fits (x ∷ n) (y ∷ s) e = omega (arith, prefix_fits n s (both (eqb x y) (prefix_of n s) e).1)

pub place_fits : (n s : List ℕ) (k : ℕ) → first_place n s ≡ Some k → k + length n ≤ length s
unfolding first_place
place_fits n s k e =
    let h = first_found (stands_at n s) (length s + 1) k e in
    omega (arith, h.0, prefix_fits n (drop k s) h.1, length-drop k s)
