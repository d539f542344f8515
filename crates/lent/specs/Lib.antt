pub mod Iteration
pub mod Iterator
pub mod Packing
pub mod Records
