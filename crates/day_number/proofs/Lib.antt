pub mod DayLemmas
pub mod DigitLemmas
pub mod PrintLemmas
pub mod Rows
pub mod ShiftLemmas
pub mod ShiftRows
pub mod TenorLemmas
pub mod TextLemmas
