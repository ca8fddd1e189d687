-- A bench that prices nothing.
use Rattle.std.proofs.Common.{inl, refl}
use Rattle.std.specs.Prelude.{ℕ, None, Err}
use Rattle.desk_edge.specs.Count.{last_count}
use Rattle.desk_terms.specs.declared.cause.Cause.TheVariants.{Unpriced}
use Rattle.desk_terms.specs.Reading.{Calc, Reading, Fits, IsWellFormed}
use Rattle.tool_frame.specs.declared.idle.IdleBench.{IdleBench}
use Rattle.tool_frame.specs.Tool.{BenchTurn}

-- each object is unpriced
abbrev pub idle_calc : Calc
idle_calc reading = Err (Unpriced reading.object)

-- its count of calls stands at its last value
abbrev pub idle_count : ℕ
idle_count = last_count

pub idle_fits : (reading : Reading) → IsWellFormed reading → Fits reading (idle_calc reading)
idle_fits reading formed = inl refl

-- no bench, before and after a run
abbrev pub no_bench : BenchTurn IdleBench
no_bench = record { calc = λ bench. idle_calc; count = λ bench. idle_count; log = λ bench. None; old = record {}; new = record {} }
