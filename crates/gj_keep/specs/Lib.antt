pub mod Books
pub mod Locals
pub mod MemoryHomes
pub mod MemoryStores
pub mod Openings
pub mod Rows
