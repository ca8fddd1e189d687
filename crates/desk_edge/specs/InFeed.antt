-- A feed over a reader: what the reader has left, where it tells that, and the count of faults (this project's profile).
use Rattle.std.specs.Prelude.{ℕ, List, Option}

pub record ReaderState : Type 0 where
  pub left : Option (List ℕ)
  pub faults : ℕ
