pub mod Listed
pub mod Numbers
pub mod Observing
pub mod RoutedTraces
pub mod inner
