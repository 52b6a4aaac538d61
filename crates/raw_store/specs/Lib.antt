pub mod Memory
pub mod Block
pub mod Directory
pub mod Rows
pub mod GridInside
