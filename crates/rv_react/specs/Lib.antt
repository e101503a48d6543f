pub mod Appending
pub mod Reactions
pub mod inner
