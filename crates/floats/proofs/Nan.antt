-- Which floats and which bit patterns are NaN. Any format.
use mathlib.Core.Path.{◌≡◌, refl, sym, ap, subst, ◌∙◌}
use Prim.Native.Nat.{ℕ, ◌*◌, ◌%◌, ◌≤◌}
use mathlib.Core.Bool.{Bool, true, false, not, false≢true}
use lib.Arith.{le→nltb}
use lib.Dec.{T}
use lib.Ieee.{Float, nan, inf, fin, Format, ones, hid, top, ne, is_nan, nan_bits}
use lib.Ieee.Bits.{nan_bits_above}
use lib.Ieee.Compare.{differs_from_itself, nan_differs}

-- a float that equals itself is no NaN, and one that does not is NaN
pub itself : (x : Float) → ne x x ≡ false → T (not (is_nan x))
unfolding is_nan
itself nan h = absurd (false≢true (sym h ∙ nan_differs))
itself (inf s) h = tt
itself (fin s m e) h = tt

pub not_itself : (x : Float) → ne x x ≡ true → x ≡ nan
not_itself x h = differs_from_itself x (subst T (sym h) tt)

nan_is : is_nan nan ≡ true
unfolding is_nan
nan_is = refl

pub differs_is : (x : Float) → ne x x ≡ is_nan x
differs_is x = go (ne x x) refl
  where
    clear : (b : Bool) → T (not b) → false ≡ b
    clear true h = absurd h
    clear false h = refl

    go : (b : Bool) → ne x x ≡ b → b ≡ is_nan x
    go true h = sym nan_is ∙ ap is_nan (sym (not_itself x h))
    go false h = clear (is_nan x) (itself x h)

-- without its sign, a pattern up to that of the infinity is not NaN's
module _ (f : Format) (b : ℕ) where
  pub up_to_infinity : b % top f ≤ ones f * hid f → T (not (nan_bits f b))
  up_to_infinity h = subst (λ (z : Bool). T (not z)) (sym (nan_bits_above f b)) (le→nltb (ones f * hid f) (b % top f) h)
