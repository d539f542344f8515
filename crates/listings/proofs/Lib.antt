pub mod Determined
pub mod Into
pub mod Lining
pub mod Longest
pub mod Putting
pub mod Telling
pub mod Told
pub mod Walking
