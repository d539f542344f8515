pub mod Determined
pub mod Faults
pub mod Jumping
pub mod Numbers
