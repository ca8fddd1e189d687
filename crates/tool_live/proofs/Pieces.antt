-- A line that ends in a piece, and a failure at it.
use Rattle.std.proofs.Common.{◌≡◌, ◌∙◌, ap, sym, subst, ℕ, ◌<◌, List, [], ◌∷◌, ◌++◌, length, append_assoc, Option}
use Rattle.std.specs.Str.Lines.{lines, strip_carriage_return}
use Rattle.tool_live.specs.declared.answerer.TheConstants.{MOST_LINE}
use Rattle.tool_live.specs.Answers.{Told, Called, Answers, Hears, PutsFront}
use Rattle.tool_live.specs.Hearing.{HasNoEnd}
use Rattle.tool_live.proofs.Lines.{AreAlike, line_ends, alike_told}
use Rattle.tool_live.proofs.Heard.{heard_end}

-- lines that are too long are answered as this one
abbrev pub LongAsThis : Told → Called → List ℕ → Type 0
LongAsThis told called line = MOST_LINE < length line → (other : List ℕ) (rest : List (List ℕ)) → MOST_LINE < length other
    → (told (other ∷ rest) ≡ told (line ∷ rest)) × (called (other ∷ rest) ≡ called (line ∷ rest))

-- a line ends behind these bytes, and another that is alike is answered
module _ (told : Told) (called : Called) (part text line : List ℕ) (none : HasNoEnd (part ++ text))
    (alike : AreAlike line (strip_carriage_return (part ++ text))) (long : LongAsThis told called line) where
  pub line_heard : (told_now : Told) (called_now : Called) (before after : Option (List ℕ)) → Answers line told told_now called called_now before after
      → Hears part (text ++ 10 ∷ []) [] told told_now called called_now before after
  line_heard told_now called_now before after answers =
      heard_end told told_now called called_now part text line before after none
      (alike_told told called line (strip_carriage_return (part ++ text)) long alike) answers

  pub line_fails : (waits rest : List ℕ) (old new : Option (List ℕ)) → ((more : List (List ℕ)) → PutsFront (waits ++ told (line ∷ more)) old new)
      → PutsFront (waits ++ told (lines (part ++ (text ++ 10 ∷ rest)))) old new
  line_fails waits rest old new front =
      let is : told (lines (part ++ (text ++ 10 ∷ rest))) ≡ told (line ∷ lines rest) =
      ap (λ (l : List ℕ). told (lines l)) (sym (append_assoc part text (10 ∷ rest))) ∙ ap told (line_ends (part ++ text) rest none)
      ∙ (alike_told told called line (strip_carriage_return (part ++ text)) long alike (lines rest)).0 in
      subst (λ (l : List ℕ). PutsFront (waits ++ l) old new) (sym is) (front (lines rest))
