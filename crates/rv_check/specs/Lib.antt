pub mod Beginnings
pub mod Checker
pub mod Readings
pub mod Run
pub mod Verdicts
pub mod inner
