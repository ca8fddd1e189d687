pub mod Table
pub mod ScriptKind
pub mod Refusal
pub mod Field
pub mod Sorts
pub mod Parts
pub mod Whole
