pub mod Amount
pub mod Appended
pub mod Days
pub mod Examples
pub mod Interest
pub mod Legs
pub mod Live
pub mod Singles
