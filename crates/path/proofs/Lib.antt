pub mod Counting
pub mod Hops
pub mod Ready
pub mod Routes
pub mod Along
pub mod Blocks
pub mod Best
pub mod Period
pub mod Shift
pub mod Figures
pub mod Unique
pub mod Witness
pub mod Sizes
pub mod Rows
pub mod Search
pub mod Next
pub mod Found
pub mod Samples
mod Given
mod Stepping
mod Walking
mod Writing
mod Searching
mod Cycles
