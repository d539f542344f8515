pub mod Into
pub mod Listing
pub mod Longest
pub mod Passes
pub mod Shown
pub mod Telling
pub mod Told
