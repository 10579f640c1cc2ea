-- `Globe`: which positions are on the globe.
pub mod Globe
