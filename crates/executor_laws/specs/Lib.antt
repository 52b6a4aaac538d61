pub mod Trees
pub mod Sites
pub mod Examples
