pub mod Same
pub mod Cases
pub mod CallCases
pub mod ExampleCases
pub mod DamageCases
