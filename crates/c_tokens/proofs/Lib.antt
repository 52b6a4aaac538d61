pub mod Longest
pub mod Digits
pub mod Front
pub mod ReadsBack
