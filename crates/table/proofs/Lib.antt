pub mod Determined
pub mod Lengths
pub mod Packed
pub mod Rows
pub mod Told
