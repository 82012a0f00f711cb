pub mod Verdicts
pub mod Placing
pub mod PairParts
pub mod Stages
pub mod Whole
