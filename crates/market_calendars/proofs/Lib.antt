mod ByText
mod Counts
mod CopyLists
mod KeyRows
