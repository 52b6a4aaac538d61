pub mod Others
pub mod Skewing
pub mod Examples
