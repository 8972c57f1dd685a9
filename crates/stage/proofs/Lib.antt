pub mod Order
pub mod Marks
pub mod Next
pub mod Divisors
pub mod Filled
