pub mod Mean
pub mod Earlier
pub mod Substitutes
pub mod Working
pub mod ByNumber
pub mod Laws
