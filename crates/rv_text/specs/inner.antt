pub mod Ascending
pub mod LinePlaces
pub mod Unreads
