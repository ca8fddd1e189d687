pub mod Below
pub mod Once
