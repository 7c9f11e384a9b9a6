pub mod Counting
pub mod Computed
pub mod Every
