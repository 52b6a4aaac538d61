pub mod Rules
pub mod Texts
pub mod Shown
pub mod Laws
pub mod Examples
