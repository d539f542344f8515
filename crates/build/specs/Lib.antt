pub mod Build
pub mod Equal
pub mod Handed
pub mod Laying
pub mod Records
pub mod ThereAndBack
pub mod Told
