pub mod Input
pub mod Rounds
pub mod Result
pub mod Working
pub mod Laws
