pub mod Sound
pub mod Undamaged
pub mod Tests
pub mod Admitted
pub mod Laws
pub mod Cases
pub mod Verdicts
pub mod Looking
