-- `Timetable`: the trip that a journey's row stands for. `Answers`: the same with its refusals, as document 01 numbers them.
pub mod Timetable
pub mod Answers
