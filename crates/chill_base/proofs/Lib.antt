pub mod Filled
pub mod Sinks
pub mod Reading
pub mod Drawers
pub mod Ring
pub mod Each
