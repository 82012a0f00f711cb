pub mod Lengths
pub mod Cases
pub mod Laws
