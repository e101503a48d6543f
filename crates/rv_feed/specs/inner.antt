pub mod Clearing
pub mod Composing
pub mod Feeding
pub mod Lane
pub mod SoFar
pub mod Turns
