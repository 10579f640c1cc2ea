-- `Firsts`: the first of several answers that is one, and what comes before the first.
pub mod Firsts
