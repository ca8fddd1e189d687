-- A sink over a writer: what the writer holds, where it tells that, and the count of faults (this project's profile).
use Rattle.std.specs.Prelude.{ℕ, List, Option}

pub record WriterState : Type 0 where
  pub written : Option (List ℕ)
  pub faults : ℕ
