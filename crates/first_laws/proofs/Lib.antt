pub mod Inversion
pub mod Cells
pub mod Nests
pub mod Programs
pub mod Amounts
pub mod Fine
pub mod Quiet
pub mod Examples
