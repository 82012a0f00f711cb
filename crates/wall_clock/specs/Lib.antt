pub mod Starts
pub mod Laws
