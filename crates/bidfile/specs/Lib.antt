pub mod Words
pub mod Items
pub mod Found
pub mod Layout
pub mod Reading
