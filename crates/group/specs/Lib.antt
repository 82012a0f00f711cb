pub mod Group
pub mod Stamps
pub mod Refusals
pub mod Held
pub mod Laws
pub mod Working
