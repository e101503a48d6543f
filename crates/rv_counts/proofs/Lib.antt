pub mod CountedLemmas
pub mod FiredLemmas
pub mod ListLemmas
pub mod MonitorLemmas
pub mod RunLemmas
pub mod SeenLemmas
