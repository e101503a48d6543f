pub mod Tree
pub mod Lists
pub mod Parts
pub mod NormalForm
pub mod Views
pub mod Codes
pub mod inner
