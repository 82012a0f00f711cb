pub mod Parts
pub mod Laws
pub mod Reached
pub mod ResultBounds
pub mod Evaluated
pub mod Alike
pub mod Greatest
