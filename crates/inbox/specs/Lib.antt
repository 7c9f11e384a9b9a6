pub mod Oldest
pub mod OldestLaws
