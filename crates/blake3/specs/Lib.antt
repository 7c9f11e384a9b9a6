-- BLAKE3 from its specification, to be read in this order: words, the rounds made of them, the compression function,
-- the tree with its output and the plain sum, `blake3`, and the two modes with a key. The others say how the code goes about it; files whose names end in `Laws` define nothing.
pub mod Words
pub mod Rounds
pub mod Compression
pub mod Tree
pub mod Modes
pub mod SideBySide
pub mod RoundLaws
pub mod Split
pub mod Lanes
pub mod FourChunks
pub mod Laws
