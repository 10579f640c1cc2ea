-- A text over 96 bytes is no line's token. Assumes nothing.
use Rattle.std.specs.Prelude.{None}
use Prim.Native.Nat.{ℕ, ◌<◌}
use native.Mathlib.Omega.{arith}
use mathlib.Core.Path.{◌≡◌, ap}
use mathlib.Core.Bool.{false}
use mathlib.Core.List.{List, [], ◌∷◌}
use lib.ListN.{length}
use Rattle.ids.specs.Pool.{id_of}
use Rattle.row_stands.specs.Stands.{stand_of, parts_at, key_of}
use Rattle.row_lookup.specs.Rows.{row_is}
use Rattle.row_lookup.proofs.Halves.{is_other, parts_same}
use Rattle.departure_fits.specs.declared.departure.Count.{Count}
use Rattle.trip_fits.specs.declared.fit.Plan.{Plan}
use Rattle.line_fits.specs.Lines.{on_line, row_fit}
use Rattle.line_fits.proofs.Best.{none_yet, off_line}
use Rattle.trip_times.specs.Line.{line_trip, ShortTokens}

module _ (bytes words : List ℕ) (p : Plan) (short : ShortTokens bytes words p) (token : List ℕ) (long : 96 < length token) (today yesterday : Count) where
  off_every_line : (k : ℕ) → k < p.lines.trip.n → on_line bytes words p token k ≡ false
  unfolding stand_of row_is parts_at key_of
  off_every_line k l = is_other _ (λ e. let q = parts_same (id_of bytes words p.lines.token k ∷ []) (token ∷ []) e in let r : id_of bytes words p.lines.token k ≡ token = cc in absurd (omega (arith, short.short k l, ap length r)))

  pub too_long : None ≡ line_trip bytes words p token today yesterday
  unfolding line_trip
  too_long =
      let n = p.lines.trip.n in
      let none = none_yet (row_fit bytes words p token today yesterday) n (λ j l. off_line bytes words p token today yesterday j (off_every_line j l)) in
      rw none
