pub mod Groups
pub mod Asking
pub mod Heads
pub mod Nested
pub mod Choices
pub mod Safety
