pub mod Lists
pub mod Observing
pub mod Walks
pub mod inner
