-- The statuses with which a run of a tool ends (this project's profile).
use Rattle.std.specs.Prelude.{◌≡◌}
use Rattle.tool_frame.specs.Stage.{Stage, Done, Refused, Cut, Halted, IsHalted}

-- how far a run came that ended with a status; and the statuses that each tool has: the text was written; the words are none that are
-- taken; the text was not written to its end; memory ran out
pub record Endings (Status : Type 0) : Type 0 where
  pub stage_of : Status → Stage
  pub done : Status
  pub usage : Status
  pub cut : Status
  pub halted : Status

-- each came so far as it says, and none but one says that memory ran out
pub record AreEndings {Status : Type 0} (ends : Endings Status) : Type 0 where
  pub done : ends.stage_of ends.done ≡ Done
  pub usage : ends.stage_of ends.usage ≡ Refused
  pub cut : ends.stage_of ends.cut ≡ Cut
  pub halted : ends.stage_of ends.halted ≡ Halted
  pub memory : (status : Status) → IsHalted (ends.stage_of status) → status ≡ ends.halted
