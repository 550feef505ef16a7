pub mod Auctions
pub mod Clearings
pub mod Counts
pub mod Curves
pub mod Rankings
pub mod Texts
pub mod Worked
