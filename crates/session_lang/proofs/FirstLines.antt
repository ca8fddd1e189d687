-- A first line that is read at once is taken as the walk over the lines takes it.
use Rattle.std.proofs.Common.{◌≡◌, ℕ, ◌+◌, false, List, [], ◌∷◌, ◌++◌, Option, Some, None, is_some, if◌then◌else◌, refl, sym, ap, ◌∙◌}
use Rattle.std.specs.Str.Lines.{lines}
use Rattle.std.proofs.lemmas.List.{append-nil}
use Rattle.session_commands.specs.declared.command.Command.{Command}
use Rattle.session_lang.specs.declared.statement.Statement.TheVariants.{Run}
use Rattle.session_lang.specs.declared.steps.Step.{Step}
use Rattle.session_lang.specs.Statement.{Known}
use Rattle.session_lang.specs.Reading.{IsSaidFirst, lines_meaning, names_left}
use Rattle.session_lang.specs.Gathered.{gathered_behind}
use Rattle.session_lang.proofs.Walk.{took_line}
use Rattle.session_lang.proofs.LeftNames.{left_more}

module _ (names begun : List (List ℕ)) (number : ℕ) (text : List ℕ) (c : Command) (after : List ℕ) where
  -- what is gathered goes on behind it
  pub took_first : (open_at : Option ℕ) → is_some open_at ≡ false → IsSaidFirst names text c (10 ∷ after) → (steps : List Step) (commands : List Command)
      → gathered_behind steps commands (is_some open_at) (lines_meaning (record { names = names; begun = begun }) open_at number (lines text))
      ≡ gathered_behind steps (commands ++ c ∷ []) (is_some open_at) (lines_meaning (record { names = names; begun = begun }) open_at (number + 1) (lines after))
  took_first (Some block) closed first steps commands = absurd (cc)
  took_first None closed first steps commands =
      let known : Known = record { names = names; begun = begun } in
      let step : Step = record { line = number; what = Run c } in
      ap (λ ls. gathered_behind steps commands false (lines_meaning known None number ls)) (ap lines first.whole ∙ first.alone after)
      ∙ took_line steps steps commands (commands ++ c ∷ []) known known None None number (Run c) first.line false refl (first.says begun false)
      (sym (append-nil steps) ∙ ap (λ o. steps ++ (if is_some o then step ∷ [] else [])) (sym first.unlinked)) refl refl (lines after)

  -- and the names stay
  pub left_first : (open_at : Option ℕ) → is_some open_at ≡ false → IsSaidFirst names text c (10 ∷ after)
      → names_left (record { names = names; begun = begun }) open_at number (lines text)
      ≡ names_left (record { names = names; begun = begun }) open_at (number + 1) (lines after)
  left_first (Some block) closed first = absurd (cc)
  left_first None closed first =
      let known : Known = record { names = names; begun = begun } in
      ap (names_left known None number) (ap lines first.whole ∙ first.alone after)
      ∙ left_more known known None None number (Run c) first.line false refl (first.says begun false) refl (lines after)
