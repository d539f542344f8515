pub mod Answer
pub mod Jumps
pub mod Listing
