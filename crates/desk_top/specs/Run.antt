-- What a run leaves outside, by its status.
use Rattle.std.specs.Prelude.{ℕ}
use Rattle.tool_frame.specs.Stage as stage
use Rattle.tool_script.specs.declared.status.Status.{Status}
use Rattle.tool_script.specs.Status.{stage_of}

-- a status that the words and files do not decide: a fault outside, or want of memory
abbrev pub IsOutside : Status → Type 0
IsOutside status = stage.IsOutside (stage_of status)

-- a status that comes before the first command is done
abbrev pub IsEarly : Status → Type 0
IsEarly status = stage.IsEarly (stage_of status)

-- no fault was counted: the count is as it was, and below its last value
abbrev pub IsQuiet : ℕ → ℕ → Type 0
IsQuiet before now = stage.IsQuiet before now
