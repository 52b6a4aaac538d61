pub mod Sized
pub mod Headlines
pub mod Reading
pub mod Memory
