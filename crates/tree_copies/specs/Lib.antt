pub mod Chained
pub mod Sums
pub mod Operations
