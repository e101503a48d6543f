pub mod Shapes
pub mod Tasks
