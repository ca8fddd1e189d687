-- The text of blocks, one after another.
use Rattle.std.proofs.Common.{◌≡◌, ℕ, suc, ◌+◌, List, [], ◌∷◌, ◌++◌, Some, slice_get, drop, drop-cons, add-one, sym, ap, ◌∙◌, append_assoc, length, refl}
use Rattle.std.proofs.lemmas.Option.{slice_get_within, get_or_from_slice_get}
use Rattle.session_commands.specs.declared.command.Command.{Command}
use Rattle.session_lang.specs.declared.statement.Statement.{Statement}
use Rattle.session_lang.specs.declared.statement.Statement.TheVariants.{Blank, Begin, End, Run}
use Rattle.session_lang.specs.declared.steps.Step.{Step}
use Rattle.session_lang.specs.Statement.{Known}
use Rattle.session_lang.specs.Reading.{block_of, action_with, actions_of, name_with, action_names_of}
use Rattle.session_lang.specs.Printing.{block_text, blocks_text}

blocks_more : (names : List (List ℕ)) (an : List ℕ) (at : ℕ) (blocks : List (List Command)) (block : List Command) → slice_get blocks at ≡ Some block → blocks_text names an at (drop at blocks) ≡ block_text names an at block ++ blocks_text names an (at + 1) (drop (at + 1) blocks)
unfolding blocks_text
blocks_more names an at blocks block h =
    ap (blocks_text names an at) (drop-cons blocks at block (slice_get_within blocks at block h) ∙ ap (λ b. b ∷ drop (suc at) blocks) (get_or_from_slice_get blocks at block block h))
    ∙ ap (λ n. block_text names an at block ++ blocks_text names an (at + 1) (drop n blocks)) (sym (add-one at))

-- one more block is printed
pub block_printed : (names : List (List ℕ)) (an : List ℕ) (at : ℕ) (blocks : List (List Command)) (block items : List Command) (out new whole : List ℕ) → slice_get blocks at ≡ Some block → items ≡ block → new ≡ out ++ block_text names an at items → out ++ blocks_text names an at (drop at blocks) ≡ whole → new ++ blocks_text names an (at + 1) (drop (at + 1) blocks) ≡ whole
block_printed names an at blocks block items out new whole h same printed before =
    ap (λ x. x ++ blocks_text names an (at + 1) (drop (at + 1) blocks)) (printed ∙ ap (λ b. out ++ block_text names an at b) same)
    ∙ append_assoc out (block_text names an at block) (blocks_text names an (at + 1) (drop (at + 1) blocks))
    ∙ ap (λ x. out ++ x) (sym (blocks_more names an at blocks block h))
    ∙ before

name_each_step : (st : Statement) (block : List Command) (blocks : List (List Command)) (names : List ℕ) → length blocks ≡ length names → length (action_with st block blocks) ≡ length (name_with st names)
name_each_step Blank block blocks names h = h
name_each_step (Begin name) block blocks names h = ap (λ n. suc n) h
name_each_step End block blocks names h = h
name_each_step (Run command) block blocks names h = h

-- each block has one name
pub one_name_each : (known : Known) (steps : List Step) → length (actions_of known steps) ≡ length (action_names_of steps)
unfolding actions_of action_names_of
one_name_each known [] = refl
one_name_each known (step ∷ steps) = name_each_step step.what (block_of known steps) (actions_of known steps) (action_names_of steps) (one_name_each known steps)
