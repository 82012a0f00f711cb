pub mod Sizes
pub mod Replying
