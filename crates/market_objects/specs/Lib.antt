pub mod Board
pub mod Making
pub mod Reader
pub mod Quotes
pub mod Fixings
