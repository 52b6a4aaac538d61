pub mod Bounds
pub mod Tightened
pub mod Examples
