pub mod Call
pub mod Calls
pub mod Record
pub mod Promises
pub mod Laws
