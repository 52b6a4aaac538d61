pub mod MemSink
pub mod Host
pub mod MemFiles
pub mod MemFilesInside
pub mod Name
pub mod Outside
pub mod Place
pub mod Whole
