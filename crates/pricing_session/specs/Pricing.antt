-- A session with its bench.
use Rattle.session_model.specs.Course.{Running}

-- the session, the round that runs in it, what picks its watchers, the bench by which it prices, and what stands beside it
pub record Pricing (P B L : Type 0) : Type 0 where
  pub running : Running P
  pub bench : B
  pub beside : L
