pub mod Meanings
pub mod Selected
