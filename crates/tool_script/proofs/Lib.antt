mod Alone
mod Asks
pub mod BlocksFrom
pub mod Calling
mod Columns
pub mod Courses
mod First
pub mod GridRows
mod Least
mod LetGo
mod Money
pub mod Moved
pub mod Named
mod Names
pub mod Past
pub mod Plays
pub mod ReadingSteps
pub mod Refused
pub mod Renumbered
pub mod RenumberedRounds
pub mod Sheets
pub mod Steps
mod Taken
pub mod There
pub mod Told
