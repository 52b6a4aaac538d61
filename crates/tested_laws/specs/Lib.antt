pub mod Testing
pub mod Shifted
