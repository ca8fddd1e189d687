-- What is gathered of lines says what their statements say.
use Rattle.std.proofs.Common.{◌≡◌, ℕ, ◌||◌, Bool, true, false, cond, List, [], ◌∷◌, ◌++◌, length, map, nat_lt, Option, Some, None, is_some, Result, Ok, Err, refl, sym, ap, subst, ◌∙◌}
use Rattle.std.specs.List.{find, list_any}
use Rattle.std.specs.Str.Lines.{lines}
use Rattle.session_commands.specs.declared.script_kind.ScriptKind.{ScriptKind}
use Rattle.session_commands.specs.declared.script_kind.ScriptKind.TheVariants as fault
use Rattle.session_lang.specs.declared.fault.ScriptFault.{ScriptFault}
use Rattle.session_commands.specs.declared.command.Command.{Command}
use Rattle.session_commands.specs.declared.command.Command.TheVariants as command
use Rattle.session_commands.specs.declared.script.Script.{Script}
use Rattle.session_commands.specs.Parts.{parts_of}
use Rattle.session_lang.specs.declared.statement.Statement.{Statement}
use Rattle.session_lang.specs.declared.statement.Statement.TheVariants.{Blank, Begin, End, Run}
use Rattle.session_lang.specs.declared.steps.Step.{Step}
use Rattle.script_words.specs.Given.{◌>>=◌}
use Rattle.session_lang.specs.Given.{GivesAt}
use Rattle.session_lang.specs.Statement.{Known}
use Rattle.session_lang.specs.Reading.{Said, kept, opened, action_of, lacks, lacks_action, line_of, linked, block_with, block_of, action_with, actions_of, name_with, action_names_of, inside_after, command_with, commands_of, script_of, unless_lacking, together_of, lines_meaning, most_bytes, script_meaning}
use Rattle.session_lang.specs.Gathered.{is_later, later_with, later, outside_with, outside, Gathered, gathered_behind, script_of_gathered, together_gathered}

one_before : (b : Bool) (step : Step) (more : List Step) → cond b (step ∷ more) more ≡ cond b (step ∷ []) [] ++ more
one_before true step more = refl
one_before false step more = refl

-- a statement in front of others is kept for later in front of what is gathered of them
pub later_kept : (inside : Bool) (number : ℕ) (st : Statement) (steps : List Step) → later inside (kept number st steps) ≡ later_with inside (record { line = number; what = st }) [] ++ later (inside_after st inside) steps
unfolding later
later_kept inside number Blank steps = refl
later_kept inside number (Begin name) steps = refl
later_kept inside number End steps = refl
later_kept inside number (Run c) steps = one_before (is_later inside (Run c)) (record { line = number; what = Run c }) (later inside steps)

pub outside_kept : (inside : Bool) (number : ℕ) (st : Statement) (steps : List Step) → outside inside (kept number st steps) ≡ outside_with inside st [] ++ outside (inside_after st inside) steps
unfolding outside
outside_kept true number Blank steps = refl
outside_kept true number (Begin name) steps = refl
outside_kept true number End steps = refl
outside_kept true number (Run c) steps = refl
outside_kept false number Blank steps = refl
outside_kept false number (Begin name) steps = refl
outside_kept false number End steps = refl
outside_kept false number (Run c) steps = refl

-- a block stands open behind a statement where its line is told
pub opened_inside : (st : Statement) (number : ℕ) (open_at : Option ℕ) → is_some (opened st number open_at) ≡ inside_after st (is_some open_at)
opened_inside Blank number open_at = refl
opened_inside (Begin name) number open_at = refl
opened_inside End number open_at = refl
opened_inside (Run c) number open_at = refl

same_either : {X : Type 0} (b : Bool) (x : X) → cond b x x ≡ x
same_either true x = refl
same_either false x = refl

block_from : (K : Known) (b : Bool) (step : Step) (more : List Step) → block_of K (cond b (step ∷ more) more) ≡ cond b (block_with K step.what (block_of K more)) (block_of K more)
unfolding block_of
block_from K true step more = refl
block_from K false step more = refl

actions_from : (K : Known) (b : Bool) (step : Step) (more : List Step) → actions_of K (cond b (step ∷ more) more) ≡ cond b (action_with step.what (block_of K more) (actions_of K more)) (actions_of K more)
unfolding actions_of
actions_from K true step more = refl
actions_from K false step more = refl

names_from : (b : Bool) (step : Step) (more : List Step) → action_names_of (cond b (step ∷ more) more) ≡ cond b (name_with step.what (action_names_of more)) (action_names_of more)
unfolding action_names_of
names_from true step more = refl
names_from false step more = refl

lack_from : (K : Known) (b : Bool) (step : Step) (more : List Step) → find (λ s. lacks K s.what) (cond b (step ∷ more) more) ≡ cond b (cond (lacks K step.what) (Some step) (find (λ s. lacks K s.what) more)) (find (λ s. lacks K s.what) more)
lack_from K true step more = refl
lack_from K false step more = refl

lack_or : (K : Known) (inside : Bool) (action : Option ℕ) (step : Option Step) (a b : Option Step) → a ≡ b → cond (inside || is_some action) (cond (lacks_action K action) step a) a ≡ cond (lacks_action K action) step b
lack_or K true action step a b h = ap (cond (lacks_action K action) step) h
lack_or K false (Some name) step a b h = ap (cond (lacks_action K (Some name)) step) h
lack_or K false None step a b h = h

made : List (List Command) → List Command → List ℕ → Script
made actions commands names = record { actions = actions; commands = commands; action_names = names }

module _ (K : Known) where
  block_by : (st : Statement) (steps : List Step) → block_of K (later true steps) ≡ block_of K steps → cond (is_later true st) (block_with K st (block_of K (later (inside_after st true) steps))) (block_of K (later (inside_after st true) steps)) ≡ block_with K st (block_of K steps)
  block_by (Run c) steps h = ap (λ more. linked K c ∷ more) h
  block_by Blank steps h = h
  block_by (Begin name) steps h = h
  block_by End steps h = refl

  -- a block has all its commands
  block_later : (steps : List Step) → block_of K (later true steps) ≡ block_of K steps
  unfolding block_of later
  block_later [] = refl
  block_later (step ∷ steps) = block_from K (is_later true step.what) step (later (inside_after step.what true) steps) ∙ block_by step.what steps (block_later steps)

  actions_by : (inside : Bool) (st : Statement) (steps : List Step) → ((i : Bool) → actions_of K (later i steps) ≡ actions_of K steps) → cond (is_later inside st) (action_with st (block_of K (later (inside_after st inside) steps)) (actions_of K (later (inside_after st inside) steps))) (actions_of K (later (inside_after st inside) steps)) ≡ action_with st (block_of K steps) (actions_of K steps)
  actions_by inside (Run c) steps h = same_either (is_later inside (Run c)) (actions_of K (later inside steps)) ∙ h inside
  actions_by inside Blank steps h = h inside
  actions_by inside (Begin name) steps h = ap (λ block. block ∷ actions_of K (later true steps)) (block_later steps) ∙ ap (λ more. block_of K steps ∷ more) (h true)
  actions_by inside End steps h = h false

  actions_later : (steps : List Step) (inside : Bool) → actions_of K (later inside steps) ≡ actions_of K steps
  unfolding actions_of later
  actions_later [] inside = refl
  actions_later (step ∷ steps) inside = actions_from K (is_later inside step.what) step (later (inside_after step.what inside) steps) ∙ actions_by inside step.what steps (actions_later steps)

  lack_by : (inside : Bool) (st : Statement) (step : Option Step) (steps : List Step) → ((i : Bool) → find (λ s. lacks K s.what) (later i steps) ≡ find (λ s. lacks K s.what) steps) → cond (is_later inside st) (cond (lacks K st) step (find (λ s. lacks K s.what) (later (inside_after st inside) steps))) (find (λ s. lacks K s.what) (later (inside_after st inside) steps)) ≡ cond (lacks K st) step (find (λ s. lacks K s.what) steps)
  lack_by inside (Run c) step steps h = lack_or K inside (action_of c) step (find (λ s. lacks K s.what) (later inside steps)) (find (λ s. lacks K s.what) steps) (h inside)
  lack_by inside Blank step steps h = h inside
  lack_by inside (Begin name) step steps h = h true
  lack_by inside End step steps h = h false

  -- the first statement that names an action that no block defines is kept for later
  lack_gathered : (steps : List Step) (inside : Bool) → find (λ s. lacks K s.what) (later inside steps) ≡ find (λ s. lacks K s.what) steps
  unfolding later
  lack_gathered [] inside = refl
  lack_gathered (step ∷ steps) inside = lack_from K (is_later inside step.what) step (later (inside_after step.what inside) steps) ∙ lack_by inside step.what (Some step) steps (lack_gathered steps)

  put_linked : (inside : Bool) (st : Statement) (more : List Command) → map (linked K) (outside_with inside st more) ≡ command_with K inside st (map (linked K) more)
  put_linked true st more = refl
  put_linked false (Run c) more = refl
  put_linked false Blank more = refl
  put_linked false (Begin name) more = refl
  put_linked false End more = refl

  outside_linked : (inside : Bool) (steps : List Step) → map (linked K) (outside inside steps) ≡ commands_of K inside steps
  unfolding outside commands_of
  outside_linked inside [] = refl
  outside_linked inside (step ∷ steps) = put_linked inside step.what (outside (inside_after step.what inside) steps) ∙ ap (command_with K inside step.what) (outside_linked (inside_after step.what inside) steps)

names_by : (inside : Bool) (st : Statement) (steps : List Step) → ((i : Bool) → action_names_of (later i steps) ≡ action_names_of steps) → cond (is_later inside st) (name_with st (action_names_of (later (inside_after st inside) steps))) (action_names_of (later (inside_after st inside) steps)) ≡ name_with st (action_names_of steps)
names_by inside (Run c) steps h = same_either (is_later inside (Run c)) (action_names_of (later inside steps)) ∙ h inside
names_by inside Blank steps h = h inside
names_by inside (Begin name) steps h = ap (λ more. name ∷ more) (h true)
names_by inside End steps h = h false

names_gathered : (steps : List Step) (inside : Bool) → action_names_of (later inside steps) ≡ action_names_of steps
unfolding action_names_of later
names_gathered [] inside = refl
names_gathered (step ∷ steps) inside = names_from (is_later inside step.what) step (later (inside_after step.what inside) steps) ∙ names_by inside step.what steps (names_gathered steps)

script_held : (K : Known) (steps : List Step) → script_of_gathered K (later false steps) (outside false steps) ≡ script_of K steps
unfolding made
script_held K steps =
    ap (λ actions. made actions (map (linked K) (outside false steps)) (action_names_of (later false steps))) (actions_later K steps false)
    ∙ ap (λ commands. made (actions_of K steps) commands (action_names_of (later false steps))) (outside_linked K false steps)
    ∙ ap (made (actions_of K steps) (commands_of K false steps)) (names_gathered steps false)

-- what was gathered says together what the statements do
pub together_same : (K : Known) (steps : List Step) (open_at : Option ℕ) → together_gathered K (later false steps) (outside false steps) open_at ≡ together_of K steps open_at
together_same K steps (Some number) = refl
together_same K steps None =
    ap (λ step. unless_lacking (line_of step) (script_of_gathered K (later false steps) (outside false steps), K.names)) (lack_gathered K steps false)
    ∙ ap (λ script. unless_lacking (line_of (find (λ s. lacks K s.what) steps)) (script, K.names)) (script_held K steps)

abbrev is_told : Gathered → Result Gathered (ℕ × ScriptKind)
is_told h = Ok h

told_same : (a b : Gathered) → is_told a ≡ is_told b → a ≡ b
told_same a b h = cc

lines_told : (r : Result Said (ℕ × ScriptKind)) (h : Gathered) → gathered_behind [] [] false r ≡ Ok h → (r >>= (λ said. together_of said.known said.steps said.open_at)) ≡ together_gathered h.known h.steps h.commands h.open_at
lines_told (Ok said) h e =
    let all : Gathered = record { steps = later false said.steps; commands = outside false said.steps; known = said.known; open_at = said.open_at } in
    sym (together_same said.known said.steps said.open_at) ∙ ap (λ x. together_gathered x.known x.steps x.commands x.open_at) (told_same all h e)
lines_told (Err f) h e = absurd (cc)

-- a text no longer than a script may be says what is gathered of its lines
pub text_told : (names begun : List (List ℕ)) (text : List ℕ) (h : Gathered) → begun ≡ [] → nat_lt most_bytes (length text) ≡ false → gathered_behind [] [] false (lines_meaning (record { names = names; begun = begun }) None 1 (lines text)) ≡ Ok h → script_meaning names text ≡ together_gathered h.known h.steps h.commands h.open_at
unfolding script_meaning
text_told names begun text h none short e =
    ap (λ b. cond b (Err (0, fault.TooLong)) (lines_meaning (record { names = names; begun = [] }) None 1 (lines text) >>= (λ said. together_of said.known said.steps said.open_at))) short
    ∙ lines_told (lines_meaning (record { names = names; begun = [] }) None 1 (lines text)) h (ap (λ b. gathered_behind [] [] false (lines_meaning (record { names = names; begun = b }) None 1 (lines text))) (sym none) ∙ e)

-- the same of an answer
pub text_given : (view : Script → Script × List (List ℕ)) (r : Result Script ScriptFault) (names begun : List (List ℕ)) (text : List ℕ) (h : Gathered) → begun ≡ [] → nat_lt most_bytes (length text) ≡ false → gathered_behind [] [] false (lines_meaning (record { names = names; begun = begun }) None 1 (lines text)) ≡ Ok h → GivesAt view r (together_gathered h.known h.steps h.commands h.open_at) → GivesAt view r (script_meaning names text)
text_given view r names begun text h none short e gives =
    subst (λ told. GivesAt view r told) (sym (text_told names begun text h none short e)) gives

linked_none : (K : Known) (c : Command) → is_some (action_of c) ≡ false → linked K c ≡ c
unfolding parts_of
linked_none K (command.Watch watcher action) h = absurd (cc)
linked_none K c h = refl

or_neither : (a b : Bool) → (a || b) ≡ false → (a ≡ false) × (b ≡ false)
or_neither true b h = absurd (cc)
or_neither false b h = (refl, h)

-- commands of which none names an action are linked as they are
pub all_linked : (K : Known) (commands : List Command) → list_any (λ c. is_some (action_of c)) commands ≡ false → commands ≡ map (linked K) commands
all_linked K [] h = refl
all_linked K (c ∷ commands) h =
    let none = or_neither (is_some (action_of c)) (list_any (λ d. is_some (action_of d)) commands) h in
    ap (λ d. d ∷ commands) (sym (linked_none K c none.0)) ∙ ap (λ more. linked K c ∷ more) (all_linked K commands none.1)
