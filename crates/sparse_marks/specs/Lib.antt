pub mod Matrices
pub mod Kept
pub mod Forms
pub mod Marks
pub mod Walks
pub mod Extents
pub mod Laws
pub mod Examples
