pub mod Executor
pub mod Sites
pub mod Widths
pub mod Heads
pub mod Parts
pub mod Cells
pub mod Matrices
pub mod Dimensions
