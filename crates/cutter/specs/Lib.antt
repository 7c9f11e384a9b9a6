-- Every cut of a small survey: which there are (Cuts), that the list has exactly these, each once and in order (CutsLaws), what is written of them
-- (Text, TextLaws), and that a fresh receiver makes a whole message of each (KeptLaws, WholeLaws). Fronts and FrontsLaws are for the code alone.
pub mod Cuts
pub mod Text
pub mod Fronts
