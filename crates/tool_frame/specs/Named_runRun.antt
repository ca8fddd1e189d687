-- WHAT A RUN OF A TOOL THAT TAKES NAMES DOES (this project's profile).
use Rattle.std.specs.Prelude.{◌≡◌, ◌⊎◌, ℕ, Bool, if◌then◌else◌, List, Result, Ok, Err, IfSome}
use Rattle.desk_terms.specs.Reading.{Calc}
use Rattle.tool_frame.specs.Endings.{Endings}
use Rattle.tool_frame.specs.Stage.{IsOutside}
use Rattle.tool_frame.specs.Tool.{Tool, ShelfTurn, SinkTurn, BenchTurn, IsRun, verdict_of}
use Rattle.tool_frame.specs.declared.named_run_status.NamedStatus.{NamedStatus}
use Rattle.tool_frame.specs.declared.named_run_status.NamedStatus.TheVariants.{Of, Refused}

-- the status of the run itself: a text with a wrong name is written as every text is
abbrev pub status_in : {Status : Type 0} → Status → NamedStatus Status → Status
status_in done (Of status) = status
status_in done Refused = done

-- how a run ends whose text was written
abbrev pub named_end : {Status : Type 0} → Status → Bool → NamedStatus Status
named_end done refuses = if refuses then Refused else Of done

-- how a run ends, where nothing fails outside
abbrev pub ending_of : {Wanted Status : Type 0} → Status → (Wanted → Bool) → Result Wanted Status → NamedStatus Status
ending_of done refuses (Ok wanted) = named_end done (refuses wanted)
ending_of done refuses (Err status) = Of status

-- A RUN OF A TOOL THAT TAKES NAMES, and says of what is wanted whether one of them is wrong
pub record IsNamedRun {Request Wanted Status K B : Type 0} (ends : Endings Status) (tool : Tool Request Wanted Status) (refuses : Calc → Wanted → Bool)
    (words : List (List ℕ)) (result : NamedStatus Status) (shelf : ShelfTurn) (sink : SinkTurn K) (bench : BenchTurn B) : Type 0 where
  -- it is a run of the tool, whatever the names are
  pub run : IsRun ends tool words (status_in ends.done result) shelf sink bench
  -- a wrong name is told, and no right one, but for a fault outside or an allocation that fails
  pub named : IfSome shelf.old.files (λ files. IsOutside (ends.stage_of (status_in ends.done result))
      ⊎ (result ≡ ending_of ends.done (refuses (bench.calc bench.old)) (verdict_of ends tool.asks files words)))
