pub mod Equations
pub mod Judged
