pub mod Sizes
pub mod WholeText
