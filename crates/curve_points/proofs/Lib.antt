pub mod CastLemmas
pub mod SegmentLemmas
pub mod PointLemmas
pub mod LawLemmas
pub mod SeenLemmas
pub mod Rows
