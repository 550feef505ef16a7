pub mod NameTexts
pub mod WorkedLines
