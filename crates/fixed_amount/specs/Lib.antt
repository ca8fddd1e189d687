pub mod Rounding
pub mod Decimal
