pub mod Book
pub mod Lists
pub mod Demand3
pub mod Laws
