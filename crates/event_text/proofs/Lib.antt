pub mod Cutting
pub mod Opening
pub mod Sharing
pub mod Fitting
pub mod Answering
pub mod Printing
pub mod InColumns
pub mod Laws
