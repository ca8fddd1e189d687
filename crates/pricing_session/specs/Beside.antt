-- What was said stands beside a session.
use Rattle.std.specs.Prelude.{◌≡◌}
use Rattle.live_session.specs.Lines.{Lines}

-- the names of actions, the block that stands open and the count of lines are as they were
pub record IsAsSaid (old new : Lines) : Type 0 where
  pub begun : new.begun ≡ old.begun
  pub block : new.block ≡ old.block
  pub line : new.line ≡ old.line
