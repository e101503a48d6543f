pub mod Pairs
pub mod Cover
pub mod Branches
pub mod Holding
pub mod Nodes
pub mod Rows
pub mod inner
