pub mod Apart
pub mod Image
pub mod Kinds
pub mod Setters
