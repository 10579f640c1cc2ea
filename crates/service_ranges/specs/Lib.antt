-- `Range`: which days a range of services has.
pub mod Range
