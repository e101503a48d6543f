pub mod GeneratedBound
pub mod Accepted
