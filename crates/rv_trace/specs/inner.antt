pub mod FieldPlaces
pub mod LineParts
pub mod Naming
pub mod Noting
pub mod Runs
pub mod Seeking
pub mod SeekingLines
