-- What the reading of a script over a market may end with.
use Rattle.std.proofs.Common.{◌≡◌}
use Rattle.tool_script.specs.declared.status.Status.{Status}
use Rattle.tool_script.specs.declared.status.Status.TheVariants.{Done, Usage, Market, Script, ReadFault, WriteFault, NoMemory, Absent}
use Rattle.tool_script.specs.Found.{IsRefusal}
use Rattle.tool_script.specs.Status.{stage_of}
use Rattle.tool_frame.specs.Stage.{IsBefore}

pub refusal_before : (status : Status) → IsRefusal status → IsBefore (stage_of status)
refusal_before (Market section entry why) refusal = tt
refusal_before (Script line why) refusal = tt
refusal_before (Absent role) refusal = tt
refusal_before ReadFault refusal = tt
refusal_before NoMemory refusal = tt
refusal_before Done refusal = absurd refusal
refusal_before Usage refusal = absurd refusal
refusal_before WriteFault refusal = absurd refusal

pub refusal_usage : (status : Status) → IsRefusal status → status ≡ Usage → ⊥
refusal_usage (Market section entry why) refusal is = cc
refusal_usage (Script line why) refusal is = cc
refusal_usage (Absent role) refusal is = cc
refusal_usage ReadFault refusal is = cc
refusal_usage NoMemory refusal is = cc
refusal_usage Done refusal is = refusal
refusal_usage Usage refusal is = refusal
refusal_usage WriteFault refusal is = refusal
