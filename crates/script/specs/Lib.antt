pub mod Input
pub mod Script
pub mod InputLaws
pub mod Decimal
pub mod DecimalLaws
