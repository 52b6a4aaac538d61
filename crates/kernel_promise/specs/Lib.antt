pub mod Seen
pub mod Motions
pub mod Moved
pub mod Prescribed
pub mod Named
pub mod Sound
pub mod Safe
