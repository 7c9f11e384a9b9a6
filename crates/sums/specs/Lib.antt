pub mod Sums
pub mod Line
pub mod SumsLaws
pub mod LineLaws
