pub mod Prices
pub mod Ranks
mod Turned
mod NameNumbers
