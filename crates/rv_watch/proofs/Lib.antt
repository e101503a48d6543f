pub mod IdleLemmas
pub mod InstanceLemmas
pub mod RunLemmas
pub mod WatchLemmas
pub mod WordLemmas
