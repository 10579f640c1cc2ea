-- The operation: what the parts' answers make of it. Assumes nothing.
use Prim.Native.Nat.{ℕ, ◌≤◌}
use mathlib.Core.Path.{◌≡◌, ◌∙◌}
use mathlib.Core.List.{List, []}
use lib.Ieee.{Float}
use Rattle.std.specs.Prelude.{fold}
use lib.ListN.{length}
use borrow.Author.Tests.{eq-eqb, ne_eqb}
use Rattle.tables.specs.Pools.{pools}
use Rattle.tables.specs.Bounds.{chart_bounds}
use Rattle.verdicts.specs.Refuse.{refusal_of}
use Rattle.record_faults.specs.Faults.{start, step_of}
use Rattle.record_faults.specs.declared.Faults.{Faults}
use Rattle.stop_record.specs.declared.StopTime.{StopTime}
use Rattle.record_refusals.specs.Verdict.{lent_causes, verdict_of}
use Rattle.filled_records.specs.Records.{laid_r, laid_a, laid_d, laid_k}
use Rattle.filled_records.specs.Answers.{code_of, records_after, stops_after, dists_after, marks_after}
use Rattle.record_refusals.specs.declared.LentRecords.{LentRecords}
use Rattle.filled_records.proofs.Laid.{stops_laid, dists_laid, marks_laid, records_laid}
use Rattle.record_refusals.proofs.Refused.{passed}

module _ (rs : List StopTime) (bytes words : List ℕ) (reals : List Float) (l : LentRecords) (ats : List ℕ) (ds : List Float) (ks : List ℕ) where
  abbrev code : ℕ
  code = code_of rs bytes words reals l ats ds ks

  pub code_is : {m : ℕ} → m ≡ l.stops.lat.n → {c : Faults} → c ≡ fold (step_of m) start rs → {lent : ℕ} → lent ≡ refusal_of (pools bytes words [] reals []) (lent_causes chart_bounds l) →
      {v : ℕ} → v ≡ verdict_of c lent (length rs) (length ats) (length ds) (length ks) → v ≡ code
  unfolding code_of
  code_is e₀ e₁ e₂ e₃ = rw (e₃, e₂, e₁, e₀)

  -- where something is refused, all is as it was
  pub stay : {v : ℕ} → v ≡ code → (v ≡ 0 → ⊥) →
      (rs ≡ records_after rs bytes words reals l ats ds ks) × (ats ≡ stops_after rs bytes words reals l ats ds ks) × (ds ≡ dists_after rs bytes words reals l ats ds ks) × (ks ≡ marks_after rs bytes words reals l ats ds ks)
  unfolding records_after stops_after dists_after marks_after
  stay e h = let z = ne_eqb code 0 (λ q. h (e ∙ q)) in (rw z, rw z, rw z, rw z)

  pub bounds : code ≡ 0 → (length rs ≤ 1000000) × (length rs ≤ length ats) × (length rs ≤ length ds) × (length rs ≤ length ks)
  unfolding code_of
  bounds e = passed (length rs) (length ats) (length ds) (length ks) _ _ e

  -- where nothing is, the columns' answers are in the records
  pub written : code ≡ 0 →
      (laid_r rs bytes reals l ats ds ks ≡ records_after rs bytes words reals l ats ds ks) × (laid_a rs bytes reals l ats ds ks ≡ stops_after rs bytes words reals l ats ds ks)
      × (laid_d rs bytes reals l ats ds ks ≡ dists_after rs bytes words reals l ats ds ks) × (laid_k rs bytes reals l ats ds ks ≡ marks_after rs bytes words reals l ats ds ks)
  unfolding records_after stops_after dists_after marks_after
  written e =
      let z = eq-eqb code 0 e in
      let in_all = bounds e in (
        rw z (records_laid rs bytes reals l ats ds ks in_all.1 in_all.2 in_all.3),
        rw z (stops_laid rs bytes reals l ats ds ks in_all.1 in_all.2 in_all.3),
        rw z (dists_laid rs bytes reals l ats ds ks in_all.1 in_all.2 in_all.3),
        rw z (marks_laid rs bytes reals l ats ds ks in_all.1 in_all.2 in_all.3),
      )
