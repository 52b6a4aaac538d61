pub mod Figures
pub mod Work
pub mod Recipe
pub mod Examples
