-- `Arcs`: the stand-ins for the arcs.
pub mod Arcs
