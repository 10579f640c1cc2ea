-- `Verdict`: the first refusal that applies to backfill of records.
pub mod Verdict
