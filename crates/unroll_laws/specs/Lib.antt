pub mod Recasting
pub mod Grouping
pub mod Laws
pub mod Examples
