pub mod Following
pub mod Opens
pub mod Clears
pub mod Releases
pub mod Fields
pub mod Finds
pub mod Finishes
