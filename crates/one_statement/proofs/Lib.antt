pub mod Replaced
pub mod Naming
pub mod Putting
pub mod Linking
