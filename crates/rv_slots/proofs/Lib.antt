pub mod ShapeLemmas
pub mod TaskLemmas
