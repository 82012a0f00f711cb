pub mod Search
pub mod Index
