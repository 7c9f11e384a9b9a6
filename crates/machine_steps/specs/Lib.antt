-- The laws stand in proofs/. One definition is a contract's too.
pub mod LabelFine
