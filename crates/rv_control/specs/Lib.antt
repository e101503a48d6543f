pub mod Effects
pub mod FileTexts
pub mod Opening
pub mod Paths
pub mod Scripts
pub mod Sets
pub mod Trees
pub mod Writes
