pub mod Headline
pub mod ReplayReads
pub mod Texts
pub mod Words
pub mod inner
