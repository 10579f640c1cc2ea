-- `Shorter`: the nearest f32 is the library's.
mod Shorter
