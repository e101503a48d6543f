pub mod Counters
pub mod RowSets
