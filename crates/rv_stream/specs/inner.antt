pub mod Faults
pub mod Feeding
pub mod Pieces
pub mod Routings
