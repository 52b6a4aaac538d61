pub mod Layouts
pub mod Products
pub mod Forms
pub mod Moved
pub mod Parts
pub mod Kinds
pub mod Plans
