pub mod Own
pub mod Turns
pub mod Walks
