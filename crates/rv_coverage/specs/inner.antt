pub mod Covering
pub mod Words
