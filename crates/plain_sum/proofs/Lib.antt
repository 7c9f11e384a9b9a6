-- What the proofs cite.
pub mod Start
