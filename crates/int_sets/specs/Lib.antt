pub mod Answers
pub mod Gathering
pub mod Packing
pub mod Views
pub mod Keys
pub mod KeptRows
