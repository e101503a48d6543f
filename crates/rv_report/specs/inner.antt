pub mod Printed
pub mod Tallies
