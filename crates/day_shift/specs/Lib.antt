pub mod Adjusted
pub mod Advanced
pub mod Business
pub mod Month
pub mod MonthEnd
