pub mod Determined
pub mod Margin
pub mod Padded
pub mod ReadBack
pub mod Setters
pub mod Told
