-- What the contracts cite. `Faults`: what one record adds, and all of them.
pub mod Faults
