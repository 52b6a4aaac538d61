pub mod Plain
pub mod Seated
pub mod Alike
pub mod Standing
pub mod Placed
pub mod Stopped
pub mod Values
pub mod Begun
pub mod Seating
pub mod Readings
pub mod Sides
pub mod Own
mod Worked
