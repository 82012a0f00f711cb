pub mod Value
pub mod Order
pub mod Readings
pub mod Entries
pub mod Stored
pub mod Damage
pub mod Laws
pub mod Found
