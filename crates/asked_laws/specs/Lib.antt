pub mod Asked
pub mod Examples
