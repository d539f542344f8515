pub mod Counts
pub mod Determined
pub mod Lists
pub mod Masks
pub mod Ranges
pub mod Told
