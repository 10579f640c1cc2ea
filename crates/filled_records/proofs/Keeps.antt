-- What backfill leaves of each record as it was. Assumes nothing.
--     other-fields      every field but the distance and its flag
--     keeps-record      a record that has a distance, whole
use Prim.Native.Nat.{ℕ, ◌<◌}
use mathlib.Core.Path.{◌≡◌, refl, ap, ◌∙◌}
use mathlib.Core.Bool.{Bool, true, false}
use mathlib.Core.List.{List}
use lib.Dec.{eqb}
use lib.Ieee.{Float, nan}
use lib.ListN.{length, get_or}
use Rattle.records.specs.Rows.{each}
use Rattle.stop_record.specs.Record.{none, either, with_dist}
use Rattle.records.specs.Records.{fill_row}
use Rattle.stop_record.specs.declared.StopTime.{StopTime}
use Rattle.records.proofs.Lists.{each_at}

keeps : (t u : Bool) (s : StopTime) (d : Float) → let r = either t s (either u s (with_dist s d)) in (r.stop ≡ s.stop) × (r.arrival ≡ s.arrival) × (r.departure ≡ s.departure) × (r.sequence ≡ s.sequence)
keeps true u s d = (refl, refl, refl, refl)
keeps false true s d = (refl, refl, refl, refl)
keeps false false s d = (refl, refl, refl, refl)

-- of records that are filled by any columns, as backfill's are
module _ (rs : List StopTime) (ds : List Float) (ks : List ℕ) (j : ℕ) (within : j < length rs) where
  abbrev before : StopTime
  before = get_or rs j none

  abbrev after : StopTime
  after = get_or (each (fill_row ds ks) rs) j none

  row_is : after ≡ fill_row ds ks j before
  row_is = each_at (fill_row ds ks) rs j none within

  pub other_fields : (after.stop ≡ before.stop) × (after.arrival ≡ before.arrival) × (after.departure ≡ before.departure) × (after.sequence ≡ before.sequence)
  other_fields = let k = keeps before.measured (eqb (get_or ks j 0) 0) before (get_or ds j nan) in
      (ap (λ (s : StopTime). s.stop) row_is ∙ k.0, ap (λ (s : StopTime). s.arrival) row_is ∙ k.1, ap (λ (s : StopTime). s.departure) row_is ∙ k.2, ap (λ (s : StopTime). s.sequence) row_is ∙ k.3)

  pub keeps_record : before.measured ≡ true → after ≡ before
  keeps_record h = row_is ∙ ap (λ (t : Bool). either t before (either (eqb (get_or ks j 0) 0) before (with_dist before (get_or ds j nan)))) h
