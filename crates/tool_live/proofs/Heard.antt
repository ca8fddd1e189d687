-- How far what was heard is answered.
use Rattle.std.proofs.Common.{◌≡◌, ◌∙◌, ap, sym, refl, ℕ, List, [], ◌∷◌, ◌++◌, append_assoc, Option}
use Rattle.std.specs.Str.Lines.{lines, strip_carriage_return}
use Rattle.desk_edge.specs.Sink.{appended}
use Rattle.desk_edge.proofs.SinkLemmas.{appended-appended}
use Rattle.tool_live.specs.Answers.{Told, Called, Answers, Hears, PutsFront}
use Rattle.tool_live.specs.Hearing.{HasNoEnd}
use Rattle.tool_live.proofs.Lines.{line_ends}
use Rattle.tool_live.proofs.Fronts.{front_on}

module _ (told : Told) (called : Called) (part : List ℕ) (before : Option (List ℕ)) where
  -- nothing yet
  pub heard_none : Hears part [] part told told called called before before
  heard_none = record { bytes = λ rest. refl; calls = λ rest. refl }

  module _ (told_mid : Told) (called_mid : Called) (heard now : List ℕ) (mid : Option (List ℕ)) (hears : Hears part heard now told told_mid called called_mid before mid) where
    -- bytes more that are no newline
    pub heard_more : (bytes : List ℕ) → Hears part (heard ++ bytes) (now ++ bytes) told told_mid called called_mid before mid
    heard_more bytes = record {
      bytes = λ rest. ap (λ (l : List ℕ). appended (told_mid (lines l)) mid) (append_assoc now bytes rest) ∙ hears.bytes (bytes ++ rest)
          ∙ ap (λ (l : List ℕ). appended (told (lines (part ++ l))) before) (sym (append_assoc heard bytes rest));
      calls = λ rest. ap (λ (l : List ℕ). called_mid (lines l)) (append_assoc now bytes rest) ∙ hears.calls (bytes ++ rest)
          ∙ ap (λ (l : List ℕ). called (lines (part ++ l))) (sym (append_assoc heard bytes rest));
    }

    -- more bytes, behind which another line stands open
    pub heard_then : (told_now : Told) (called_now : Called) (more next : List ℕ) (after : Option (List ℕ))
        → Hears now more next told_mid told_now called_mid called_now mid after → Hears part (heard ++ more) next told told_now called called_now before after
    heard_then told_now called_now more next after then = record {
      bytes = λ rest. then.bytes rest ∙ hears.bytes (more ++ rest)
          ∙ ap (λ (l : List ℕ). appended (told (lines (part ++ l))) before) (sym (append_assoc heard more rest));
      calls = λ rest. then.calls rest ∙ hears.calls (more ++ rest)
          ∙ ap (λ (l : List ℕ). called (lines (part ++ l))) (sym (append_assoc heard more rest));
    }

    -- a failure behind them
    pub heard_front : (old taken new : Option (List ℕ)) (waits waited said left rest : List ℕ) → before ≡ appended waited old → mid ≡ appended waits taken
        → taken ≡ appended said old → told_mid (lines (now ++ rest)) ≡ left → PutsFront (waits ++ left) taken new
        → PutsFront (waited ++ told (lines (part ++ (heard ++ rest)))) old new
    heard_front old taken new waits waited said left rest is_before is_mid grew is_left front =
        front_on old taken new said (waits ++ left) (waited ++ told (lines (part ++ (heard ++ rest)))) grew
        (sym (appended-appended waits left taken) ∙ ap (appended left) (sym is_mid) ∙ ap (λ (l : List ℕ). appended l mid) (sym is_left) ∙ hears.bytes rest
        ∙ ap (appended (told (lines (part ++ (heard ++ rest))))) is_before ∙ appended-appended waited (told (lines (part ++ (heard ++ rest)))) old)
        front

-- bytes and a newline end the open line
ended : (part text rest : List ℕ) → HasNoEnd (part ++ text)
    → lines (part ++ ((text ++ 10 ∷ []) ++ rest)) ≡ strip_carriage_return (part ++ text) ∷ lines rest
ended part text rest none =
    ap (λ (l : List ℕ). lines (part ++ l)) (append_assoc text (10 ∷ []) rest)
    ∙ ap lines (sym (append_assoc part text (10 ∷ rest))) ∙ line_ends (part ++ text) rest none

-- it is answered as another line
pub heard_end : (told told_now : Told) (called called_now : Called) (part text line : List ℕ) (before after : Option (List ℕ)) → HasNoEnd (part ++ text)
    → ((rest : List (List ℕ)) → (told (strip_carriage_return (part ++ text) ∷ rest) ≡ told (line ∷ rest))
    × (called (strip_carriage_return (part ++ text) ∷ rest) ≡ called (line ∷ rest)))
    → Answers line told told_now called called_now before after
    → Hears part (text ++ 10 ∷ []) [] told told_now called called_now before after
heard_end told told_now called called_now part text line before after none alike answers = record {
  bytes = λ rest. answers.bytes (lines rest) ∙ ap (λ (l : List ℕ). appended l before) (sym (alike (lines rest)).0)
      ∙ ap (λ (l : List (List ℕ)). appended (told l) before) (sym (ended part text rest none));
  calls = λ rest. answers.calls (lines rest) ∙ sym (alike (lines rest)).1 ∙ ap called (sym (ended part text rest none));
}
