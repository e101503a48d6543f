pub mod AtomLemmas
pub mod CubesSay
pub mod MeetLemmas
pub mod SizeLemmas
pub mod ThreadLemmas
