pub mod Instances
pub mod Runs
pub mod Texts
pub mod Watching
pub mod Words
pub mod inner
