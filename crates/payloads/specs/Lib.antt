pub mod Acceptance
pub mod Bytes
pub mod Commands
pub mod Meanings
