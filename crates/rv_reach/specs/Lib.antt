pub mod Counting
pub mod CountingLaws
pub mod Counts
pub mod Passing
pub mod Reached
pub mod Reaching
pub mod Watching
pub mod inner
