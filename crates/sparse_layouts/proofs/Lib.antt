pub mod Laying
pub mod Falling
pub mod Widths
pub mod Rows
pub mod Extents
pub mod Examples
