pub mod Ready
pub mod Laws
pub mod Padding
pub mod Layouts
pub mod Examples
