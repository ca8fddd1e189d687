pub mod Apart
pub mod NetLaws
pub mod Movable
pub mod Room
