pub mod Layouts
pub mod Padded
pub mod Laws
pub mod RowLaws
pub mod Extents
pub mod Examples
