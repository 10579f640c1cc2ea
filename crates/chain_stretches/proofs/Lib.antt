-- `Small`: what the code writes for 1e-9 and 1e-6.
pub mod Small
