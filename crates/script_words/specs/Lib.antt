pub mod Given
pub mod Line
pub mod Word
pub mod WordText
