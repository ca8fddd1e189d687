pub mod TableLaws
pub mod RowMakes
