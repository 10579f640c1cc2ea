-- `Made`: the trip whose id is made of parts of a ref.
pub mod Made
