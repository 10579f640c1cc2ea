-- `Words`: the fixed texts. `Keys`: trip keys less what stands at their ends.
pub mod Words
pub mod Keys
