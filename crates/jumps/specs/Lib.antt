pub mod Entries
pub mod Jump
pub mod Told
