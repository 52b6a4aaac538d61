pub mod Examples
pub mod Guarded
