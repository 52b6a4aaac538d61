pub mod Reading
pub mod Tracing
pub mod Unwritten
