-- What the program writes.
pub mod Cuts
