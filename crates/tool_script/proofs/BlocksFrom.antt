-- The blocks of a script from a place on.
use Rattle.std.proofs.Common.{◌≡◌, ℕ, ◌+◌, ◌<◌, ◌≤◌, List, [], ◌∷◌, length, drop, get_or, Some, refl, sym, ◌∙◌, ap}
use Rattle.std.proofs.lemmas.List.{drop_more, drop_all}
use Rattle.session_commands.specs.declared.command.Command.{Command}
use Rattle.session_commands.specs.declared.script.Script.{Script}
use Rattle.tool_script.specs.Scenario.{Scenario}
use Rattle.tool_script.specs.Grid.{blocks}
use Rattle.tool_script.specs.Block.{block_of}

-- the blocks from a place on
abbrev pub blocks_from : Script → ℕ → List Scenario
blocks_from script at = blocks (drop at script.action_names) (drop at script.actions)

pub blocks_next : (script : Script) (at : ℕ) (name : ℕ) (moves : List Command) → at < length script.actions
    → at < length script.action_names → name ≡ get_or script.action_names at name → moves ≡ get_or script.actions at moves
    → blocks_from script at ≡ block_of (Some name) moves ∷ blocks_from script (at + 1)
blocks_next script at name moves within named is are =
    ap (λ (l : List ℕ). blocks l (drop at script.actions)) (drop_more script.action_names at name named)
    ∙ ap (λ (l : List (List Command)). blocks (get_or script.action_names at name ∷ drop (at + 1) script.action_names) l)
    (drop_more script.actions at moves within)
    ∙ ap (λ (n : ℕ). block_of (Some n) (get_or script.actions at moves) ∷ blocks_from script (at + 1)) (sym is)
    ∙ ap (λ (m : List Command). block_of (Some name) m ∷ blocks_from script (at + 1)) (sym are)

pub blocks_end : (script : Script) (at : ℕ) → length script.actions ≤ at → blocks_from script at ≡ []
blocks_end script at past =
    ap (λ (l : List (List Command)). blocks (drop at script.action_names) l) (drop_all at script.actions past)
    ∙ none (drop at script.action_names)
  where
    none : (names : List ℕ) → blocks names [] ≡ []
    none [] = refl
    none (name ∷ names) = refl
