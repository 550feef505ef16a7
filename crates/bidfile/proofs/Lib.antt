mod PlainWords
pub mod FoundPlaces
pub mod ItemKinds
mod WordBytes
mod Standing
mod Handing
mod ReadBack
mod WorkedFile
