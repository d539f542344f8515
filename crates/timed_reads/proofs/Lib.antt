pub mod Determined
pub mod Sums
