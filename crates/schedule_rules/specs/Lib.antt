pub mod Raw
pub mod Schedule
pub mod Step
pub mod Terms
