pub mod CivilDate
pub mod Counter
pub mod Day
