pub mod Targets
pub mod Assembled
pub mod Found
