pub mod Bits
pub mod Windows
pub mod Turns
pub mod FirstMet
pub mod Passes
pub mod Moves
pub mod Superseded
pub mod Whole
