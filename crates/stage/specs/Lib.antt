pub mod Stages
pub mod Instances
pub mod Rows
pub mod Periods
pub mod LawfulRow
