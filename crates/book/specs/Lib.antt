pub mod Entries
pub mod Faults
pub mod Tasks
pub mod Ledgers
pub mod Keeping
pub mod Queries
pub mod Books
