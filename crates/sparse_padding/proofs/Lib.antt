pub mod Sums
pub mod Bodies
pub mod PaddedCells
pub mod Falls
pub mod Examples
pub mod Spmv
