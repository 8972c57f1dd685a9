pub mod Positions
pub mod Slots
pub mod Kept
pub mod Routes
pub mod Cycles
pub mod Rows
pub mod Queries
