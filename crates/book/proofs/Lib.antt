pub mod NameLaws
pub mod ModelLaws
pub mod Rules
pub mod Kept
pub mod ExitLaws
