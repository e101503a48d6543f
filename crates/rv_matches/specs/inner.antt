pub mod Lanes
pub mod LateTimes
pub mod NamesNear
pub mod RuleSteps
pub mod ShortTimes
pub mod TextSteps
pub mod Times
