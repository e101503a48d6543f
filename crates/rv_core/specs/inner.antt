pub mod Levels
pub mod SetPhases
