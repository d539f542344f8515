pub mod Fields
pub mod Nth
