pub mod Nexts
pub mod Standing
pub mod Taking
