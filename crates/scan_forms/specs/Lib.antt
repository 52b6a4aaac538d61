pub mod Numbers
pub mod Forms
pub mod Bounds
pub mod Reads
pub mod Sums
pub mod Placed
