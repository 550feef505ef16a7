pub mod Names
pub mod Books
pub mod Asked
pub mod Sides
pub mod Exits
pub mod Numbers
pub mod Lawful
pub mod Views
