-- `Single`: an f64 as the nearest f32.
pub mod Single
