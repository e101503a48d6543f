pub mod Findings
pub mod MonitorFindings
pub mod OwnRules
pub mod Watched
pub mod Whole
pub mod Zeros
