pub mod Rises
pub mod Walks
pub mod Walking
pub mod Rests
pub mod Shares
pub mod Whole
