pub mod First
pub mod Minutes
pub mod Laws
pub mod Days
pub mod Cases
