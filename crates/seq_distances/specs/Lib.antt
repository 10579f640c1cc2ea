-- What the contracts cite. `Dist`: the distance that the timetable has for a sequence.
pub mod Dist
