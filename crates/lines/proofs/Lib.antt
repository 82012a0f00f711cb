pub mod Line
pub mod Laws
pub mod Parts
pub mod Writing
