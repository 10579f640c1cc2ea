-- `Measure`: bearings, and measures as operations.
pub mod Measure
