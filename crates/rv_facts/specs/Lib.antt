pub mod BindingLines
pub mod Facts
pub mod MonitorFacts
pub mod Orders
pub mod Pairs
pub mod RuleFacts
pub mod Shown
