pub mod Determined
pub mod Making
pub mod Reaching
pub mod Told
