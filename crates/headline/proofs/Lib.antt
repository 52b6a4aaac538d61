pub mod Leaves
pub mod Cells
pub mod FirstForm
pub mod Judged
pub mod JudgedPrograms
pub mod Whole
pub mod Examples
