pub mod FileListLemmas
pub mod Rows
pub mod ShelfLemmas
pub mod SinkLemmas
