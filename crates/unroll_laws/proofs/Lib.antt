pub mod Recasting
pub mod Groups
pub mod Unrolled
pub mod TenCopies
