pub mod Inputs
pub mod Examples
pub mod Alike
pub mod Rows
pub mod Entries
pub mod Texts
pub mod Bytes
