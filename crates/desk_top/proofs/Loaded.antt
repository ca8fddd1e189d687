-- What a load leaves outside: that of its session and the commands of its script.
use Rattle.std.proofs.Common.{◌≡◌, ◌∙◌, ℕ, ◌<◌, Bool, List, length, take, Option, None, ap, subst}
use Rattle.desk_edge.specs.Sink.{appended}
use Rattle.desk_terms.specs.Bench.{counted, logged}
use Rattle.desk_terms.specs.Reading.{Calc}
use Rattle.session_commands.specs.declared.command.Command.{Command}
use Rattle.session_model.specs.Course.{Running, running}
use Rattle.session_model.specs.Rounds.{transcript, calls_of}
use Rattle.watch_rounds.specs.declared.picker.Order.{Order}
use Rattle.watch_rounds.specs.declared.picker.Order.TheVariants.{First}
use Rattle.desk_top.specs.Early.{outside, IsCut, IsHalted}
use Rattle.desk_top.specs.Round.{StopsWithin}
use Rattle.desk_top.specs.Summary.{Tally, tally_of, summary}
use Rattle.tool_script.specs.Verdict.{ScriptRun, Load}
use Rattle.desk_top.specs.Output.{first_standing, ordered, written_by, made_by, as_round, output_in, computed_in, rounds_in}
use Rattle.desk_top.proofs.Progress.{Log}
use Rattle.desk_top.proofs.Reported.{report_cut, load_halted, all_made}

module _ (calc : Calc) (size : ℕ) (run : ScriptRun) (session : Running Order) (commands : List Command) (is : session ≡ running First (first_standing run)) (are : commands ≡ run.script.commands) where
  calls_are : calls_of (ordered calc) session commands ≡ made_by calc First run
  calls_are =
      ap (λ (r : Running Order). calls_of (ordered calc) r commands) is
      ∙ ap (λ (l : List Command). calls_of (ordered calc) (running First (first_standing run)) l) are

  lines_are : transcript (ordered calc) session commands ≡ written_by calc First run
  lines_are =
      ap (λ (r : Running Order). transcript (ordered calc) r commands) is
      ∙ ap (λ (l : List Command). transcript (ordered calc) (running First (first_standing run)) l) are

  -- its lines, from the tally of its transcript
  pub load_text : (text : List ℕ) (tally : Tally) → text ≡ summary size tally
      → tally ≡ tally_of (transcript (ordered calc) session commands) → text ≡ output_in calc (Load size run)
  load_text text tally sums tells =
      sums ∙ ap (λ (t : Tally). summary size t) (tells ∙ ap tally_of lines_are)

  module _ (old new : Option (List ℕ)) (count count2 : ℕ) (log log2 : Log) where
    pub load_count : count2 ≡ counted count (length (calls_of (ordered calc) session commands))
        → count2 ≡ counted count (length (computed_in calc (Load size run)))
    load_count counts = counts ∙ ap (λ (l : List (ℕ × Bool)). counted count (length l)) calls_are

    pub load_log : log2 ≡ logged log (calls_of (ordered calc) session commands)
        → log2 ≡ logged log (computed_in calc (Load size run))
    load_log logs = logs ∙ ap (logged log) calls_are

    -- memory ran out in its rounds
    pub load_stopped : StopsWithin (calls_of (ordered calc) session commands) (outside None count log) (outside None count2 log2)
        → IsHalted (rounds_in calc (Load size run)) (outside old count log) (outside old count2 log2)
    load_stopped stops =
        load_halted (as_round (output_in calc (Load size run)) (made_by calc First run)) old count count2 log log2
        (subst (λ (l : List (ℕ × Bool)). StopsWithin l (outside None count log) (outside None count2 log2)) calls_are stops)

    -- or behind them
    pub load_ran : count2 ≡ counted count (length (calls_of (ordered calc) session commands))
        → log2 ≡ logged log (calls_of (ordered calc) session commands)
        → IsHalted (rounds_in calc (Load size run)) (outside old count log) (outside old count2 log2)
    load_ran counts logs =
        load_stopped (all_made (calls_of (ordered calc) session commands) count count2 log log2 counts logs)

    -- the write of its lines failed
    pub load_cut : count2 ≡ counted count (length (calls_of (ordered calc) session commands))
        → log2 ≡ logged log (calls_of (ordered calc) session commands) → (text : List ℕ) → text ≡ output_in calc (Load size run)
        → (n : ℕ) × (n < length text) × (new ≡ appended (take n text) old)
        → IsCut (rounds_in calc (Load size run)) (outside old count log) (outside new count2 log2)
    load_cut counts logs text says front =
        report_cut (as_round (output_in calc (Load size run)) (made_by calc First run)) old new count count2 log log2 front.0
        (load_count counts) (load_log logs) (subst (λ (l : List ℕ). front.0 < length l) says front.1)
        (front.2 ∙ ap (λ (l : List ℕ). appended (take front.0 l) old) says)
