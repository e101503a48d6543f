pub mod Edges
pub mod PlainParts
