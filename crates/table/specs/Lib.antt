pub mod Answers
pub mod Refusals
pub mod Table
pub mod Told
