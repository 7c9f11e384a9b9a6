pub mod Going
pub mod Packets
pub mod Lines
pub mod Choosing
pub mod Ranks
pub mod Wakes
pub mod Chunks
pub mod Pushes
