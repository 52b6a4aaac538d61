pub mod Replacing
pub mod Found
pub mod Widths
pub mod Multiples
pub mod Pairing
pub mod Fitting
pub mod Moving
