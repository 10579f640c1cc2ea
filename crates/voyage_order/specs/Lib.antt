-- `Position`: the coordinates of a voyage's places. `Astern`: what it is not to go astern. `Agree`: what it is that place and coordinates agree, and where silence falls.
pub mod Position
pub mod Astern
pub mod Agree
