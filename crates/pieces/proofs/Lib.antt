pub mod Rows
pub mod Walks
pub mod Spots
pub mod Inserts
pub mod Cuts
pub mod Sums
