pub mod Share
pub mod Promises
pub mod Laws
