mod Widths
mod Finding
pub mod Ordered
mod Tested
mod Small
mod Shifted
