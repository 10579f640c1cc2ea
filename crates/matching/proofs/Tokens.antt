-- A journey with a token, and one without.
use Rattle.std.specs.Prelude.{None}
use Prim.Native.Nat.{ℕ}
use native.Mathlib.Omega.{arith}
use mathlib.Core.Path.{◌≡◌, refl}
use mathlib.Core.List.{List, [], ◌∷◌, map}
use lib.ListN.{length}
use Rattle.ids.specs.Bytes.{upper_of}
use Rattle.trip_times.specs.Line.{line_trip}
use Rattle.departure_fits.specs.declared.departure.Count.{Count}
use Rattle.trip_fits.specs.declared.fit.Plan.{Plan}
use Rattle.matching.specs.Matching.{token_trip}

module _ (bytes words : List ℕ) (p : Plan) (today yesterday : Count) where
  pub no_token : (token : List ℕ) → length token ≡ 0 → None ≡ token_trip bytes words p token today yesterday
  no_token [] e = refl
  no_token (x ∷ token) e = absurd (omega arith)

  pub with_token : (token : List ℕ) → (length token ≡ 0 → ⊥) → line_trip bytes words p (map upper_of token) today yesterday ≡ token_trip bytes words p token today yesterday
  with_token [] h = absurd (h refl)
  with_token (x ∷ token) h = refl
