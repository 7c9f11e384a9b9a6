pub mod Writes
pub mod Fitting
