mod Neighbours
pub mod DemandWords
mod NextCorner
mod Measuring
mod Compared
