pub mod AutomatonLemmas
pub mod LineLemmas
pub mod LengthLemmas
pub mod ReadLemmas
