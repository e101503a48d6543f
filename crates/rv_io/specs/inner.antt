pub mod MemStores
pub mod Reading
