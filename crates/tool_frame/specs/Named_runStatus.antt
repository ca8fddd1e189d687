-- The exit code of a wrong name, and the line on standard error (this project's profile).
use Rattle.std.specs.Prelude.{ℕ, List, codes, Option, Some}
use Rattle.tool_frame.specs.declared.named_run_status.NamedStatus.{NamedStatus}
use Rattle.tool_frame.specs.declared.named_run_status.NamedStatus.TheVariants.{Of, Refused}
use Rattle.tool_frame.specs.declared.named_run_status.NamedWords as line

-- a wrong name has the code 10; all else has its own
abbrev pub code_of : {Status : Type 0} → (Status → ℕ) → NamedStatus Status → ℕ
code_of code (Of status) = code status
code_of code Refused = 10

-- the line on standard error after the program's name
abbrev pub said_of : {Status : Type 0} → (Status → Option (List ℕ)) → NamedStatus Status → Option (List ℕ)
said_of said (Of status) = said status
said_of said Refused = Some (codes "refused")

abbrev pub words_of : {Words : Type 0} → (Words → Option (List ℕ)) → line.NamedWords Words → Option (List ℕ)
words_of output (line.TheVariants.Of words) = output words
words_of output line.TheVariants.Refused = Some (codes "refused")
