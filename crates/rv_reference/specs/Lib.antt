pub mod JudgedSpecs
pub mod Monitors
pub mod PlainPhases
pub mod PlainRecords
pub mod Plans
pub mod Views
pub mod Worked
pub mod inner
