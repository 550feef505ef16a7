pub mod Laws
pub mod Ahead
pub mod Rankings
pub mod Compares
