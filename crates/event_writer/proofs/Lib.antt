pub mod Lengths
pub mod Laws
