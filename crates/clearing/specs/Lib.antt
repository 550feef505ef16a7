pub mod Finding
pub mod GroundNumbers
pub mod Grounds
pub mod Margins
pub mod Places
pub mod Premise
pub mod Sound
