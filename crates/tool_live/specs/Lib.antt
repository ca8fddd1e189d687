pub mod Answers
pub mod Ends
pub mod Hearing
pub mod Replies
pub mod Rows
pub mod Verdict
pub mod Words
