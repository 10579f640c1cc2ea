-- `Walk`: the walk along a leg's path, over the tables.
pub mod Walk
