pub mod Implied
pub mod Examples
