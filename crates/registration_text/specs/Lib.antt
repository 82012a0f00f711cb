pub mod Lines
pub mod Reader
pub mod Writer
pub mod Theorems
