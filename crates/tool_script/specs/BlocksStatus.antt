-- The exit codes, and the words on standard error behind the program's name (this project's profile).
use Rattle.std.proofs.Common.{refl, ap}
use Rattle.std.specs.Prelude.{◌≡◌, ℕ, List, ◌++◌, codes, decimal, Option, Some}
use Rattle.tool_script.specs.declared.status.Status.{Status}
use Rattle.tool_script.specs.declared.status.Status.TheVariants.{Done, Usage, WriteFault, NoMemory}
use Rattle.tool_script.specs.Status as script
use Rattle.tool_frame.specs.Endings.{Endings, AreEndings}
use Rattle.tool_frame.specs.Stage.{Stage, Refused, IsHalted}
use Rattle.tool_script.specs.declared.blocks_status.BlocksStatus.{BlocksStatus}
use Rattle.tool_script.specs.declared.blocks_status.BlocksStatus.TheVariants.{Of, Shape}

abbrev pub code_of : BlocksStatus → ℕ
code_of (Of status) = script.code_of status
code_of (Shape fault) = 9

abbrev pub words_of : BlocksStatus → List ℕ
words_of (Of status) = script.words_of status
words_of (Shape fault) = codes "shape " ++ decimal fault

-- the line on standard error after the program's name: one that is done has none
abbrev pub said_of : BlocksStatus → Option (List ℕ)
said_of (Of status) = script.said_of status
said_of (Shape fault) = Some (words_of (Shape fault))

-- how far a run came that ended so
abbrev pub stage_of : BlocksStatus → Stage
stage_of (Of status) = script.stage_of status
stage_of (Shape fault) = Refused

-- how far each came, and those that every tool has
abbrev pub blocks_ends : Endings BlocksStatus
blocks_ends = record { stage_of = stage_of; done = Of Done; usage = Of Usage; cut = Of WriteFault; halted = Of NoMemory }

blocks_memory : (status : BlocksStatus) → IsHalted (stage_of status) → status ≡ Of NoMemory
blocks_memory (Of status) halted = ap (λ (s : Status). Of s) (script.script_ends_sound.memory status halted)
blocks_memory (Shape fault) halted = absurd halted

pub blocks_ends_sound : AreEndings blocks_ends
blocks_ends_sound = record { done = refl; usage = refl; cut = refl; halted = refl; memory = blocks_memory }
