pub mod Evaluation
pub mod Layout
pub mod Working
pub mod ByNumber
pub mod Laws
