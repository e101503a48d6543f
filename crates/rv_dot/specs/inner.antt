pub mod Clashes
pub mod Gathering
pub mod Held
pub mod Numberings
