-- A scenario that was cut off.
use Rattle.std.proofs.Common.{◌≡◌, ℕ, Bool, List, ◌++◌, length, take, Option, ◌∙◌, ap, arith}
use Rattle.std.proofs.Math.Seq.{take-length}
use Rattle.std.proofs.lemmas.List.{take-append-le}
use Rattle.desk_terms.specs.Reading.{Calc}
use Rattle.session_commands.specs.declared.command.Command.{Command}
use Rattle.watch_rounds.specs.declared.picker.Order.{Order}
use Rattle.session_model.specs.Course.{Running}
use Rattle.session_rounds.specs.Goes.{Output, Halts}
use Rattle.session_rounds.proofs.Going.{halts_at_once}
use Rattle.tool_script.specs.Course.{course_of, output}
use Rattle.tool_script.specs.Going.{Extends}

-- the first of what was appended to
front_cut : {A : Type 0} (old more new : List A) → new ≡ old ++ more → take (length old) new ≡ old
front_cut old more new is =
    ap (λ (l : List _). take (length old) l) is ∙ take-append-le (length old) old more (omega arith) ∙ take-length old

pub extends_cut : {A : Type 0} (old new : List A) → Extends old new → take (length old) new ≡ old
extends_cut old new e = front_cut old e.more new e.whole

module _ (calc : Calc) (moves asks : List Command) (first : Running Order) where
  pub halts_begun : (out : Output) → Halts Order (course_of calc (moves ++ asks) first) out out
  halts_begun out = halts_at_once (course_of calc (moves ++ asks) first) out

  -- what was appended is cut off again
  pub halts_cut : (lines late : List ℕ) (count now : ℕ) (log log_now : Option (List (ℕ × Bool)))
      → Halts Order (course_of calc (moves ++ asks) first) (output lines count log) (output late now log_now)
      → take (length lines) late ≡ lines
  halts_cut lines late count now log log_now halts =
      front_cut lines halts.front late (ap (λ (o : Output). o.lines) halts.out)
