-- One scenario after the other.
use Rattle.std.proofs.Common.{◌≡◌, ℕ, ◌+◌, ◌<◌, ◌≤◌, Bool, List, [], ◌∷◌, ◌++◌, length, get_or, Option, Some, None, sym, ◌∙◌, ap, subst}
use Rattle.std.specs.Prelude.{codes}
use Rattle.std.proofs.lemmas.List.{append_assoc}
use Rattle.desk_terms.specs.Reading.{Calc}
use Rattle.session_commands.specs.declared.command.Command.{Command}
use Rattle.session_commands.specs.declared.script.Script.{Script}
use Rattle.tool_script.specs.Scenario.{Basis, Scenario, scenario_calls}
use Rattle.tool_script.specs.Grid.{Row, scenarios_of, scenario_text, scenario_texts, scenarios_calls, rows_of, worst_lines, grid}
use Rattle.tool_script.specs.Shown.{rows_in}
use Rattle.tool_script.specs.declared.shown.Shown.{Shown}
use Rattle.tool_script.specs.Block.{block_of}
use Rattle.tool_frame.specs.Calls.{Makes, Begins}
use Rattle.tool_script.proofs.BlocksFrom.{blocks_from, blocks_next, blocks_end}
use Rattle.tool_script.proofs.Past.{Past, past_none, past_more, past_begins}
use Rattle.scenario_grid.specs.Scenario.{row_of}

abbrev Log : Type 0
Log = Option (List (ℕ × Bool))

-- the heading of a scenario, and its lines behind it
pub heading_text : (label lines old headed new : List ℕ) → headed ≡ old ++ (codes "scenario " ++ label ++ codes "\n")
    → new ≡ headed ++ lines → new ≡ old ++ (codes "scenario " ++ label ++ codes "\n" ++ lines)
heading_text label lines old headed new head is =
    is ∙ ap (λ (l : List ℕ). l ++ lines) head ∙ append_assoc old (codes "scenario " ++ label ++ codes "\n") lines

-- the lines of all scenarios, and then those of the worst
pub lines_whole : (calc : Calc) (basis : Basis) (script : Script) (none lines new : List ℕ) (rows : List Row) (asks : List Command)
    → none ≡ [] → lines ≡ none ++ scenario_texts calc basis script.commands (scenarios_of script)
    → rows ≡ rows_of calc basis script.commands (scenarios_of script) → asks ≡ script.commands
    → new ≡ lines ++ worst_lines basis.names rows 0 asks → new ≡ grid calc basis script
lines_whole calc basis script none lines new rows asks empty texts shown are is =
    is ∙ ap (λ (l : List ℕ). l ++ worst_lines basis.names rows 0 asks)
    (texts ∙ ap (λ (l : List ℕ). l ++ scenario_texts calc basis script.commands (scenarios_of script)) empty)
    ∙ ap (λ (r : List Row). scenario_texts calc basis script.commands (scenarios_of script) ++ worst_lines basis.names r 0 asks) shown
    ∙ ap (λ (a : List Command). scenario_texts calc basis script.commands (scenarios_of script)
    ++ worst_lines basis.names (rows_of calc basis script.commands (scenarios_of script)) 0 a) are

-- ---- a script's scenarios, one after the other

module _ (calc : Calc) (basis : Basis) (script : Script) (lines : List ℕ) (count : ℕ) (log : Log) where
  abbrev texts : List Scenario → List ℕ
  texts scenarios = scenario_texts calc basis script.commands scenarios

  abbrev rows_for : List Scenario → List Row
  rows_for scenarios = rows_of calc basis script.commands scenarios

  abbrev calls_for : List Scenario → List (ℕ × Bool)
  calls_for scenarios = scenarios_calls calc basis script.commands scenarios

  -- these are left of a script
  abbrev pub PastOf : List Scenario → List ℕ → List Row → ℕ → Log → Type 0
  PastOf rest lines_now rows_now now log_now =
      Past (lines ++ texts (scenarios_of script)) (rows_for (scenarios_of script)) (calls_for (scenarios_of script)) count log
      (texts rest) (rows_for rest) (calls_for rest) lines_now rows_now now log_now

  none_past : PastOf (scenarios_of script) lines [] count log
  none_past = past_none lines (texts (scenarios_of script)) (rows_for (scenarios_of script)) (calls_for (scenarios_of script)) count log

  module _ (name : Option ℕ) (moves : List Command) (rest : List Scenario) (lines_now : List ℕ) (rows_now : List Row) (now : ℕ)
      (log_now : Log) (past : PastOf (block_of name moves ∷ rest) lines_now rows_now now log_now) where
    -- one more
    pub more : (lines_later : List ℕ) (rows_later : List Row) (later : ℕ) (log_later : Log)
        → lines_later ≡ lines_now ++ scenario_text calc basis script.commands (block_of name moves)
        → rows_later ≡ rows_now ++ row_of calc basis script.commands (block_of name moves) ∷ []
        → Makes (scenario_calls calc basis script.commands (block_of name moves)) now later log_now log_later
        → PastOf rest lines_later rows_later later log_later
    unfolding scenario_texts rows_of scenarios_calls
    more =
        past_more (lines ++ texts (scenarios_of script)) (rows_for (scenarios_of script)) (calls_for (scenarios_of script)) count log
        (scenario_text calc basis script.commands (block_of name moves)) (row_of calc basis script.commands (block_of name moves))
        (scenario_calls calc basis script.commands (block_of name moves)) (texts rest) (rows_for rest) (calls_for rest) lines_now
        rows_now now log_now past

    -- memory runs out in it
    pub begins : (later : ℕ) (log_later : Log)
        → Begins (scenario_calls calc basis script.commands (block_of name moves)) now later log_now log_later
        → Begins (calls_for (scenarios_of script)) count later log log_later
    unfolding scenario_texts rows_of scenarios_calls
    begins =
        past_begins (lines ++ texts (scenarios_of script)) (rows_for (scenarios_of script)) (calls_for (scenarios_of script)) count log
        (scenario_text calc basis script.commands (block_of name moves)) (row_of calc basis script.commands (block_of name moves))
        (scenario_calls calc basis script.commands (block_of name moves)) (texts rest) (rows_for rest) (calls_for rest) lines_now
        rows_now now log_now past

  -- the scenario without moves is there
  pub first_past : (none : List Command) (empty : List Shown) → none ≡ [] → empty ≡ [] → (lines_later : List ℕ)
      (rows_later : List Row) (later : ℕ) (log_later : Log)
      → lines_later ≡ lines ++ scenario_text calc basis script.commands (block_of None none)
      → rows_later ≡ rows_in empty ++ row_of calc basis script.commands (block_of None none) ∷ []
      → Makes (scenario_calls calc basis script.commands (block_of None none)) count later log log_later
      → PastOf (blocks_from script 0) lines_later rows_later later log_later
  first_past none empty no_moves no_rows lines_later rows_later later log_later text row makes =
      more None [] (blocks_from script 0) lines [] count log none_past lines_later rows_later later log_later
      (text ∙ ap (λ (m : List Command). lines ++ scenario_text calc basis script.commands (block_of None m)) no_moves)
      (row ∙ ap (λ (e : List Shown). rows_in e ++ row_of calc basis script.commands (block_of None none) ∷ []) no_rows
      ∙ ap (λ (m : List Command). row_of calc basis script.commands (block_of None m) ∷ []) no_moves)
      (subst (λ (m : List Command). Makes (scenario_calls calc basis script.commands (block_of None m)) count later log log_later)
      no_moves makes)

  pub first_begins : (none : List Command) → none ≡ [] → (later : ℕ) (log_later : Log)
      → Begins (scenario_calls calc basis script.commands (block_of None none)) count later log log_later
      → Begins (scenarios_calls calc basis script.commands (scenarios_of script)) count later log log_later
  first_begins none no_moves later log_later b =
      begins None [] (blocks_from script 0) lines [] count log none_past later log_later
      (subst (λ (m : List Command). Begins (scenario_calls calc basis script.commands (block_of None m)) count later log log_later)
      no_moves b)

  module _ (at name : ℕ) (moves : List Command) (within : at < length script.actions) (named : at < length script.action_names)
      (is : name ≡ get_or script.action_names at name) (are : moves ≡ get_or script.actions at moves) (lines_now : List ℕ)
      (rows_now : List Row) (now : ℕ) (log_now : Log) (past : PastOf (blocks_from script at) lines_now rows_now now log_now) where
    next : PastOf (block_of (Some name) moves ∷ blocks_from script (at + 1)) lines_now rows_now now log_now
    next =
        subst (λ (rest : List Scenario). PastOf rest lines_now rows_now now log_now)
        (blocks_next script at name moves within named is are) past

    -- a block more
    pub next_past : (lines_later : List ℕ) (rows_later : List Row) (later : ℕ) (log_later : Log)
        → lines_later ≡ lines_now ++ scenario_text calc basis script.commands (block_of (Some name) moves)
        → rows_later ≡ rows_now ++ row_of calc basis script.commands (block_of (Some name) moves) ∷ []
        → Makes (scenario_calls calc basis script.commands (block_of (Some name) moves)) now later log_now log_later
        → PastOf (blocks_from script (at + 1)) lines_later rows_later later log_later
    next_past = more (Some name) moves (blocks_from script (at + 1)) lines_now rows_now now log_now next

    pub next_begins : (later : ℕ) (log_later : Log)
        → Begins (scenario_calls calc basis script.commands (block_of (Some name) moves)) now later log_now log_later
        → Begins (scenarios_calls calc basis script.commands (scenarios_of script)) count later log log_later
    next_begins = begins (Some name) moves (blocks_from script (at + 1)) lines_now rows_now now log_now next

  -- all are there
  pub last_past : (at : ℕ) (lines_now : List ℕ) (rows_now : List Row) (now : ℕ) (log_now : Log) → length script.actions ≤ at
      → PastOf (blocks_from script at) lines_now rows_now now log_now
      → Past (lines ++ texts (scenarios_of script)) (rows_for (scenarios_of script)) (calls_for (scenarios_of script)) count log
      [] [] [] lines_now rows_now now log_now
  unfolding scenario_texts rows_of scenarios_calls
  last_past at lines_now rows_now now log_now past before =
      subst (λ (rest : List Scenario). PastOf rest lines_now rows_now now log_now) (blocks_end script at past) before
