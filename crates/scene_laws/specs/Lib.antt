pub mod Rules
pub mod Inputs
pub mod Ranged
pub mod Examples
