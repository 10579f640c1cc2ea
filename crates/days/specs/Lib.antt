-- What the contracts say: dates and their days, and what reading a date answers.
pub mod Days
pub mod Read
