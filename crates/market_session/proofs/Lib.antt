mod Taking
pub mod Ready
pub mod Started
