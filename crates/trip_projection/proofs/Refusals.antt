-- The operation: refused, or what is answered and written of the trip found. Assumes nothing.
use Rattle.std.specs.Prelude.{Option}
use Prim.Native.Nat.{ℕ}
use mathlib.Core.Path.{◌≡◌}
use mathlib.Core.List.{List}
use lib.ListN.{length}
use Rattle.ids.specs.Pool.{id_of}
use Rattle.refusals.specs.declared.refusal.Refusal.{Refusal}
use Rattle.refusals.specs.Refusal.{refusal_number}
use Rattle.refusals.specs.Answer.{Answer, refused}
use Rattle.answers.proofs.Told.{numbered, denied, refused_first, kept}
use Rattle.tables.specs.Pools.{Pools}
use Rattle.tables.specs.Bounds.{chart_bounds}
use Rattle.verdicts.specs.Refuse.{refusal_of}
use Rattle.tables.specs.declared.lent.LegAsked.{LegAsked}
use Rattle.tables.specs.declared.lent.Tables.{Tables}
use Rattle.geometry_checks.specs.Operations.{leg_causes}
use Rattle.trip_ids.specs.Trips.{trip_of}
use Rattle.trip_vertices.specs.Written.{found_vertices, room_answer, room_output}
use Rattle.trip_projection.specs.Answers.{asked_vertices, project_refusal, projected_of, output_of}

module _ (p : Pools) (t : Tables) (l : LegAsked) (out : List ℕ) where
  pub op_refused : (r : Refusal) → refusal_number r ≡ refusal_of p (leg_causes chart_bounds t l) → (refused (refusal_number r) ≡ projected_of p t l out) × (out ≡ output_of p t l out)
  unfolding projected_of output_of project_refusal
  op_refused r e =
      let n = refusal_number r in
      let h = numbered r in
      rw (← e, refused_first n (length (asked_vertices p t l)) (length out) h) (denied n (length (asked_vertices p t l)) h, kept n (asked_vertices p t l) out h)

  pub op_given : refusal_of p (leg_causes chart_bounds t l) ≡ 0 → {found : Option ℕ} → found ≡ trip_of p.bytes p.words t.tripkeys (id_of p.bytes p.words l.trip 0) →
      {r : Answer ℕ} {after : List ℕ} →
      (r ≡ room_answer (found_vertices p.bytes p.words p.reals t found) out) × (after ≡ room_output (found_vertices p.bytes p.words p.reals t found) out) →
      (r ≡ projected_of p t l out) × (after ≡ output_of p t l out)
  unfolding projected_of output_of project_refusal asked_vertices room_answer room_output
  op_given e f h = rw (e, ← f) h
