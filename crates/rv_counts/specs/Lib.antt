pub mod Counts
pub mod KeptRun
pub mod RuleTold
pub mod TraceTold
pub mod Watching
pub mod inner
