pub mod Calls
pub mod Files
pub mod MemSinks
pub mod MemStores
pub mod Pieces
pub mod Taken
pub mod inner
