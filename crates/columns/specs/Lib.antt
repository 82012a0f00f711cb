pub mod Column
pub mod Fields
pub mod Laws
