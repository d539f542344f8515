pub mod Frequency
pub mod Lists
pub mod Mask
pub mod Places
pub mod Settings
