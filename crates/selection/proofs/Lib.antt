pub mod SelectedLaws
