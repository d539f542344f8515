pub mod Decimals
pub mod Determined
pub mod Hexes
pub mod Lines
pub mod Naming
pub mod Telling
pub mod Writing
