pub mod Jobs
pub mod Counts
pub mod Running
pub mod Locating
