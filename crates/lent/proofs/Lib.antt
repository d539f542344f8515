pub mod AsWritten
pub mod Determined
pub mod Fixing
pub mod Iteration
pub mod Packing
