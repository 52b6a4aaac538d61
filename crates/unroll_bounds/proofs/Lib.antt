pub mod Finding
pub mod Bounded
pub mod Numbers
pub mod Copies
pub mod Worked
