-- Statuses that are worked through by hand.
use Rattle.std.specs.Prelude.{◌≡◌, ℕ, List, [], codes}
use Rattle.session_commands.specs.declared.script_kind.ScriptKind.TheVariants as script
use Rattle.tool_script.specs.declared.status.FileRole.TheVariants as of
use Rattle.tool_script.specs.declared.status.Status.TheVariants.{Done, Usage, Script, ReadFault, WriteFault, NoMemory, Absent}
use Rattle.tool_script.specs.declared.blocks_status.BlocksStatus.{BlocksStatus}
use Rattle.tool_script.specs.declared.blocks_status.BlocksStatus.TheVariants.{Of, Shape}
use Rattle.tool_script.specs.BlocksStatus.{code_of, words_of}

-- a code, and the words behind the program's name
abbrev pub Shows : BlocksStatus → ℕ → List ℕ → Type 0
Shows status code words = (code_of status ≡ code) × (words_of status ≡ words)

pub record AreTold : Type 0 where
  pub done : Shows (Of Done) 0 []
  pub usage : Shows (Of Usage) 2 (codes "usage")
  pub script : Shows (Of (Script 0 script.TooLong)) 4 (codes "script 0 toolong")
  pub read_fault : Shows (Of ReadFault) 5 (codes "read fault")
  pub write_fault : Shows (Of WriteFault) 6 (codes "write fault")
  pub no_memory : Shows (Of NoMemory) 7 (codes "no memory")
  pub absent : Shows (Of (Absent of.Script)) 8 (codes "no file script")
  pub shape : Shows (Shape 2) 9 (codes "shape 2")
