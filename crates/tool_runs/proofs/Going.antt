-- One step after the other in a session.
use Rattle.std.proofs.Common.{◌≡◌, ℕ, ◌+◌, ◌<◌, ◌≤◌, Bool, List, [], ◌∷◌, ◌++◌, length, get_or, Option, Some, None, refl, sym, ◌∙◌, ap, subst, All}
use Rattle.std.specs.Prelude.{codes}
use Rattle.std.proofs.lemmas.List.{append_assoc}
use Rattle.desk_terms.specs.Reading.{Calc}
use Rattle.session_commands.specs.declared.command.Command.{Command}
use Rattle.session_commands.specs.declared.script.Script.{Script}
use Rattle.session_commands.specs.Whole.{IsCommand}
use Rattle.watch_rounds.specs.declared.picker.Order.{Order}
use Rattle.session_model.specs.Course.{Running, round_of}
use Rattle.session_model.specs.Rounds.{rounds, calls_in, calls_of}
use Rattle.session_model.specs.Standing.{Standing, IsKnown}
use Rattle.tool_script.specs.Scenario.{Scenario, ordered, after}
use Rattle.tool_script.specs.Grid.{Row}
use Rattle.tool_script.specs.Shown.{rows_in}
use Rattle.tool_script.specs.declared.shown.Shown.{Shown}
use Rattle.tool_script.specs.Block.{block_of}
use Rattle.tool_frame.specs.Calls.{Makes, Begins}
use Rattle.tool_script.proofs.BlocksFrom.{blocks_from, blocks_next, blocks_end}
use Rattle.tool_script.proofs.Past.{Past, past_none, past_more, past_begins}
use Rattle.tool_runs.specs.Explanation.{steps_of}
use Rattle.tool_runs.specs.Steps.{commands_of, all_commands, behind, step_text, step_texts, step_row, step_rows, step_calls}

abbrev Log : Type 0
Log = Option (List (ℕ × Bool))

-- commands of the names of a script are known to a session under these names that has no action
pub known_of : (p : Standing) (names : List (List ℕ)) (commands : List Command) → p.names ≡ names → p.actions ≡ []
    → All (IsCommand (length names) 0) commands → All (IsKnown p) commands
known_of p names commands named none known =
    subst (λ (n : List (List ℕ)). All (λ c. IsCommand (length n) (length p.actions) c) commands) (sym named)
    (subst (λ (a : List (List Command)). All (λ c. IsCommand (length names) (length a) c) commands) (sym none) known)

-- the computations of commands behind others
calls_joined : (calc : Calc) (first second : List Command) (r : Running Order)
    → calls_of (ordered calc) r (first ++ second) ≡ calls_of (ordered calc) r first ++ calls_of (ordered calc) (after calc first r) second
unfolding rounds calls_in after
calls_joined calc [] second r = refl
calls_joined calc (c ∷ first) second r =
    let t = round_of (ordered calc) r c in
    ap (λ (l : List (ℕ × Bool)). t.calls ++ l) (calls_joined calc first second t.next)
    ∙ sym (append_assoc t.calls (calls_of (ordered calc) t.next first) (calls_of (ordered calc) (after calc first t.next) second))

-- the heading of a step, and its lines behind it
pub heading_text : (label lines old headed new : List ℕ) → headed ≡ old ++ (codes "step " ++ label ++ codes "\n")
    → new ≡ headed ++ lines → new ≡ old ++ (codes "step " ++ label ++ codes "\n" ++ lines)
heading_text label lines old headed new head is =
    is ∙ ap (λ (l : List ℕ). l ++ lines) head ∙ append_assoc old (codes "step " ++ label ++ codes "\n") lines

module _ (calc : Calc) (names : List (List ℕ)) (script : Script) (start : Running Order) (lines : List ℕ) (count : ℕ) (log : Log) where
  abbrev texts : List Scenario → Running Order → List ℕ
  texts steps r = step_texts calc names script.commands steps r

  abbrev rows_for : List Scenario → Running Order → List Row
  rows_for steps r = step_rows calc script.commands steps r

  abbrev calls_for : List Scenario → Running Order → List (ℕ × Bool)
  calls_for steps r = step_calls calc script.commands steps r

  -- these steps are left of a script, over this session
  abbrev pub PastOf : List Scenario → Running Order → List ℕ → List Row → ℕ → Log → Type 0
  PastOf rest r lines_now rows_now now log_now =
      Past (lines ++ texts (steps_of script) start) (rows_for (steps_of script) start) (calls_for (steps_of script) start) count log
      (texts rest r) (rows_for rest r) (calls_for rest r) lines_now rows_now now log_now

  none_past : PastOf (steps_of script) start lines [] count log
  none_past =
      past_none lines (texts (steps_of script) start) (rows_for (steps_of script) start) (calls_for (steps_of script) start) count log

  module _ (name : Option ℕ) (moves : List Command) (rest : List Scenario) (r : Running Order) (lines_now : List ℕ)
      (rows_now : List Row) (now : ℕ) (log_now : Log) (past : PastOf (block_of name moves ∷ rest) r lines_now rows_now now log_now) where
    abbrev step : Scenario
    step = block_of name moves

    abbrev own : List (ℕ × Bool)
    own = calls_of (ordered calc) r (commands_of script.commands step)

    split : calls_for (step ∷ rest) r ≡ own ++ calls_for rest (behind calc script.commands step r)
    unfolding all_commands
    split = calls_joined calc (commands_of script.commands step) (all_commands script.commands rest) r

    cut : Past (lines ++ texts (steps_of script) start) (rows_for (steps_of script) start) (calls_for (steps_of script) start) count log
        (step_text calc names script.commands step r ++ texts rest (behind calc script.commands step r))
        (step_row calc script.commands step r ∷ rows_for rest (behind calc script.commands step r))
        (own ++ calls_for rest (behind calc script.commands step r)) lines_now rows_now now log_now
    unfolding step_texts step_rows
    cut =
        subst (λ (calls : List (ℕ × Bool)). Past (lines ++ texts (steps_of script) start) (rows_for (steps_of script) start)
        (calls_for (steps_of script) start) count log (texts (step ∷ rest) r) (rows_for (step ∷ rest) r) calls lines_now rows_now now
        log_now) split past

    -- one more
    pub more : (next : Running Order) (lines_later : List ℕ) (rows_later : List Row) (later : ℕ) (log_later : Log)
        → next ≡ behind calc script.commands step r → lines_later ≡ lines_now ++ step_text calc names script.commands step r
        → rows_later ≡ rows_now ++ step_row calc script.commands step r ∷ [] → Makes own now later log_now log_later
        → PastOf rest next lines_later rows_later later log_later
    more next lines_later rows_later later log_later is text row makes =
        subst (λ (q : Running Order). PastOf rest q lines_later rows_later later log_later) (sym is)
        (past_more (lines ++ texts (steps_of script) start) (rows_for (steps_of script) start) (calls_for (steps_of script) start) count
        log (step_text calc names script.commands step r) (step_row calc script.commands step r) own
        (texts rest (behind calc script.commands step r)) (rows_for rest (behind calc script.commands step r))
        (calls_for rest (behind calc script.commands step r)) lines_now rows_now now log_now cut lines_later rows_later later log_later
        text row makes)

    -- memory runs out in it
    pub begins : (later : ℕ) (log_later : Log) → Begins own now later log_now log_later
        → Begins (calls_for (steps_of script) start) count later log log_later
    begins =
        past_begins (lines ++ texts (steps_of script) start) (rows_for (steps_of script) start) (calls_for (steps_of script) start) count
        log (step_text calc names script.commands step r) (step_row calc script.commands step r) own
        (texts rest (behind calc script.commands step r)) (rows_for rest (behind calc script.commands step r))
        (calls_for rest (behind calc script.commands step r)) lines_now rows_now now log_now cut

  -- what is asked before the first block is there
  pub first_past : (none : List Command) (empty : List Shown) → none ≡ [] → empty ≡ [] → (next : Running Order) (lines_later : List ℕ)
      (rows_later : List Row) (later : ℕ) (log_later : Log) → next ≡ behind calc script.commands (block_of None none) start
      → lines_later ≡ lines ++ step_text calc names script.commands (block_of None none) start
      → rows_later ≡ rows_in empty ++ step_row calc script.commands (block_of None none) start ∷ []
      → Makes (calls_of (ordered calc) start (commands_of script.commands (block_of None none))) count later log log_later
      → PastOf (blocks_from script 0) next lines_later rows_later later log_later
  first_past none empty no_moves no_rows next lines_later rows_later later log_later is text row makes =
      more None [] (blocks_from script 0) start lines [] count log none_past next lines_later rows_later later log_later
      (is ∙ ap (λ (m : List Command). behind calc script.commands (block_of None m) start) no_moves)
      (text ∙ ap (λ (m : List Command). lines ++ step_text calc names script.commands (block_of None m) start) no_moves)
      (row ∙ ap (λ (e : List Shown). rows_in e ++ step_row calc script.commands (block_of None none) start ∷ []) no_rows
      ∙ ap (λ (m : List Command). step_row calc script.commands (block_of None m) start ∷ []) no_moves)
      (subst (λ (m : List Command). Makes (calls_of (ordered calc) start (commands_of script.commands (block_of None m))) count later
      log log_later) no_moves makes)

  pub first_begins : (none : List Command) → none ≡ [] → (later : ℕ) (log_later : Log)
      → Begins (calls_of (ordered calc) start (commands_of script.commands (block_of None none))) count later log log_later
      → Begins (calls_for (steps_of script) start) count later log log_later
  first_begins none no_moves later log_later b =
      begins None [] (blocks_from script 0) start lines [] count log none_past later log_later
      (subst (λ (m : List Command). Begins (calls_of (ordered calc) start (commands_of script.commands (block_of None m))) count later
      log log_later) no_moves b)

  module _ (at name : ℕ) (moves : List Command) (within : at < length script.actions) (named : at < length script.action_names)
      (is : name ≡ get_or script.action_names at name) (are : moves ≡ get_or script.actions at moves) (r : Running Order)
      (lines_now : List ℕ) (rows_now : List Row) (now : ℕ) (log_now : Log)
      (past : PastOf (blocks_from script at) r lines_now rows_now now log_now) where
    at_next : PastOf (block_of (Some name) moves ∷ blocks_from script (at + 1)) r lines_now rows_now now log_now
    at_next =
        subst (λ (rest : List Scenario). PastOf rest r lines_now rows_now now log_now)
        (blocks_next script at name moves within named is are) past

    -- a block more
    pub next_past : (next : Running Order) (lines_later : List ℕ) (rows_later : List Row) (later : ℕ) (log_later : Log)
        → next ≡ behind calc script.commands (block_of (Some name) moves) r
        → lines_later ≡ lines_now ++ step_text calc names script.commands (block_of (Some name) moves) r
        → rows_later ≡ rows_now ++ step_row calc script.commands (block_of (Some name) moves) r ∷ []
        → Makes (calls_of (ordered calc) r (commands_of script.commands (block_of (Some name) moves))) now later log_now log_later
        → PastOf (blocks_from script (at + 1)) next lines_later rows_later later log_later
    next_past = more (Some name) moves (blocks_from script (at + 1)) r lines_now rows_now now log_now at_next

    pub next_begins : (later : ℕ) (log_later : Log)
        → Begins (calls_of (ordered calc) r (commands_of script.commands (block_of (Some name) moves))) now later log_now log_later
        → Begins (calls_for (steps_of script) start) count later log log_later
    next_begins = begins (Some name) moves (blocks_from script (at + 1)) r lines_now rows_now now log_now at_next

  -- all are there
  pub last_past : (at : ℕ) (r : Running Order) (lines_now : List ℕ) (rows_now : List Row) (now : ℕ) (log_now : Log)
      → length script.actions ≤ at → PastOf (blocks_from script at) r lines_now rows_now now log_now
      → Past (lines ++ texts (steps_of script) start) (rows_for (steps_of script) start) (calls_for (steps_of script) start) count log
      [] [] [] lines_now rows_now now log_now
  unfolding step_texts step_rows all_commands rounds calls_in
  last_past at r lines_now rows_now now log_now past before =
      subst (λ (rest : List Scenario). PastOf rest r lines_now rows_now now log_now) (blocks_end script at past) before
