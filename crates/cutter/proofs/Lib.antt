pub mod CutsLaws
pub mod TextLaws
pub mod FrontsLaws
pub mod KeptLaws
pub mod WholeLaws
mod Listed
