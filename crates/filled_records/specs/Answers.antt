-- The operation: the first refusal that applies, or 0, and the four lists afterwards. Where there is a refusal all are as they were.
use Rattle.std.specs.Prelude.{ℕ, cond, List, [], ◌++◌, map, fold, eqb, Float, length, drop}
use Rattle.tables.specs.Pools.{pools}
use Rattle.tables.specs.Bounds.{chart_bounds}
use Rattle.verdicts.specs.Refuse.{refusal_of}
use Rattle.row_distances.specs.Rows.{dists_in, marks_in}
use Rattle.records.specs.Rows.{each}
use Rattle.records.specs.Records.{fill_row}
use Rattle.stop_record.specs.declared.StopTime.{StopTime}
use Rattle.record_faults.specs.Faults.{start, step_of}
use Rattle.record_refusals.specs.Verdict.{lent_causes, verdict_of}
use Rattle.filled_records.specs.Records.{record_filled}
use Rattle.record_refusals.specs.declared.LentRecords.{LentRecords}

module _ (rs : List StopTime) (bytes words : List ℕ) (reals : List Float) (l : LentRecords) (ats : List ℕ) (ds : List Float) (ks : List ℕ) where
  -- the first refusal that applies, or 0
  unfoldable pub code_of : ℕ
  code_of = verdict_of (fold (step_of l.stops.lat.n) start rs) (refusal_of (pools bytes words [] reals []) (lent_causes chart_bounds l)) (length rs) (length ats) (length ds) (length ks)

  -- the records: each missing distance that backfill has an answer for is written, and nothing else
  unfoldable pub records_after : List StopTime
  records_after = cond (eqb code_of 0) (each (fill_row (dists_in (record_filled bytes reals l rs)) (marks_in (record_filled bytes reals l rs))) rs) rs

  -- the columns: the records' stops, and their distances after backfill
  unfoldable pub stops_after : List ℕ
  stops_after = cond (eqb code_of 0) (map (λ (s : StopTime). s.stop) rs ++ drop (length rs) ats) ats

  unfoldable pub dists_after : List Float
  dists_after = cond (eqb code_of 0) (dists_in (record_filled bytes reals l rs) ++ drop (length rs) ds) ds

  unfoldable pub marks_after : List ℕ
  marks_after = cond (eqb code_of 0) (marks_in (record_filled bytes reals l rs) ++ drop (length rs) ks) ks
