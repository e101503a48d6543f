pub mod Cubes
pub mod Holding
pub mod Sizes
