pub mod Naming
pub mod HeaderText
pub mod Headers
pub mod inner
