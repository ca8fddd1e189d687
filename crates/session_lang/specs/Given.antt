-- How an answer of the code stands to what a definition gives.
use Rattle.std.specs.Prelude.{◌≡◌, ℕ, Result, Ok, Err}
use Rattle.script_words.specs.declared.line_fault.LineFault.{LineFault}
use Rattle.script_words.specs.declared.line_fault.LineFault.TheVariants as fault
use Rattle.session_lang.specs.declared.fault.ScriptFault.{ScriptFault}
use Rattle.session_lang.specs.declared.fault.ScriptFault.TheVariants as script
use Rattle.session_commands.specs.declared.script_kind.ScriptKind.{ScriptKind}

-- the same of a fault with its line
abbrev pub FailsAt : {Y : Type 0} → ScriptFault → Result Y (ℕ × ScriptKind) → Type 0
FailsAt script.NoMemory told = Unit {0}
FailsAt (script.At line k) told = told ≡ Err (line, k)

-- what was returned, seen by view, is what the definition gives, unless memory ran out
abbrev pub GivesAt : {X Y : Type 0} → (X → Y) → Result X ScriptFault → Result Y (ℕ × ScriptKind) → Type 0
GivesAt view (Ok x) told = told ≡ Ok (view x)
GivesAt view (Err e) told = FailsAt e told

-- a line's fault with the number of the line
abbrev pub at_number : ℕ → LineFault → ScriptFault
at_number number fault.NoMemory = script.NoMemory
at_number number (fault.Kind k) = script.At number k
