pub mod Commands
pub mod Determined
pub mod Low
pub mod Room
pub mod Told
