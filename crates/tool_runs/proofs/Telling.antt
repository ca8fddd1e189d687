-- The lines of an ask, step by step, and of the asks from a place on.
use Rattle.std.proofs.Common.{◌≡◌, ℕ, ◌+◌, ◌<◌, ◌≤◌, ℤ, List, [], ◌∷◌, ◌++◌, length, get_or, drop, Option, refl, sym, ◌∙◌, ap}
use Rattle.std.specs.Prelude.{slice_index_or, None}
use Rattle.std.proofs.lemmas.List.{append_assoc, append-nil, drop_more, drop_all}
use Rattle.session_commands.specs.declared.command.Command.{Command}
use Rattle.tool_script.specs.Kinds.{asked_name}
use Rattle.tool_script.specs.Grid.{Row, column}
use Rattle.tool_script.specs.Shown.{rows_in}
use Rattle.tool_script.specs.declared.shown.Shown.{Shown}
use Rattle.tool_runs.specs.Explanation.{told_line, told_lines, total_line, ask_lines, gain_lines}
use Rattle.tool_runs.specs.Gains.{latter, first_shown, last_shown, told, told_by, amounts, difference, total_of}
use Rattle.tool_runs.proofs.Sums.{first_push, last_push}

abbrev pub Entries : Type 0
Entries = List (Option ℕ × Option ℤ)

module _ (names : List (List ℕ)) (asked : Option ℕ) (entries : Entries) (old : List ℕ) where
  -- these steps are left; of those before, this is the first money and the last, and their lines are written
  pub record Telling (rest : Entries) (first last : Option ℤ) (now : List ℕ) : Type 0 where
    pub before : List (Option ℤ)
    pub texts : old ++ told_lines names asked (told_by [] entries) ≡ now ++ told_lines names asked (told_by before rest)
    pub whole : amounts entries ≡ before ++ amounts rest
    pub is_first : first ≡ first_shown before
    pub is_last : last ≡ last_shown before

  pub telling_none : Telling entries None None old
  unfolding first_shown last_shown
  telling_none = record { before = []; texts = refl; whole = refl; is_first = refl; is_last = refl }

  -- one more is told
  pub telling_more : (name : Option ℕ) (shown : Option ℤ) (rest : Entries) (first last : Option ℤ) (now later : List ℕ)
      → Telling ((name, shown) ∷ rest) first last now → later ≡ now ++ told_line names asked name (told last shown)
      → Telling rest (latter shown first) (latter last shown) later
  unfolding told_lines told_by
  telling_more name shown rest first last now later t is =
      let line = told_line names asked name (told (last_shown t.before) shown) in
      let left = told_lines names asked (told_by (t.before ++ shown ∷ []) rest) in
      record {
        before = t.before ++ shown ∷ [];
        texts = t.texts ∙ sym (append_assoc now line left)
            ∙ ap (λ (l : Option ℤ). (now ++ told_line names asked name (told l shown)) ++ left) (sym t.is_last)
            ∙ ap (λ (l : List ℕ). l ++ left) (sym is);
        whole = t.whole ∙ sym (append_assoc t.before (shown ∷ []) (amounts rest));
        is_first = ap (latter shown) t.is_first ∙ sym (first_push t.before shown);
        is_last = ap (λ (l : Option ℤ). latter l shown) t.is_last ∙ sym (last_push t.before shown);
      }

  -- all are told, and then the total
  pub telling_done : (first last : Option ℤ) (now later : List ℕ) → Telling [] first last now
      → later ≡ now ++ total_line names asked (difference first last) → later ≡ old ++ ask_lines names asked entries
  unfolding told_lines told_by
  telling_done first last now later t is =
      let all : amounts entries ≡ t.before = t.whole ∙ append-nil t.before in
      is
      ∙ ap (λ (l : Option ℤ). now ++ total_line names asked (difference l last)) t.is_first
      ∙ ap (λ (l : Option ℤ). now ++ total_line names asked (difference (first_shown t.before) l)) t.is_last
      ∙ ap (λ (l : List (Option ℤ)). now ++ total_line names asked (total_of l)) (sym all)
      ∙ ap (λ (l : List ℕ). l ++ total_line names asked (total_of (amounts entries))) (sym (t.texts ∙ append-nil now))
      ∙ append_assoc old (told_lines names asked (told_by [] entries)) (total_line names asked (total_of (amounts entries)))

-- what rows show for the ask at a place, from the next row on
abbrev pub left_of : ℕ → List Shown → ℕ → Entries
left_of at rows i = column at (rows_in (drop i rows))

pub left_next : (at : ℕ) (rows : List Shown) (i : ℕ) (row : Shown) → i < length rows → row ≡ get_or rows i row
    → left_of at rows i ≡ (row.name, slice_index_or row.values at None) ∷ left_of at rows (i + 1)
left_next at rows i row within is =
    ap (λ (l : List Shown). column at (rows_in l))
    (drop_more rows i row within ∙ ap (λ (r : Shown). r ∷ drop (i + 1) rows) (sym is))

pub left_none : (at : ℕ) (rows : List Shown) (i : ℕ) → length rows ≤ i → left_of at rows i ≡ []
left_none at rows i past = ap (λ (l : List Shown). column at (rows_in l)) (drop_all i rows past)

-- ---- the asks from a place on

pub gains_more : (names : List (List ℕ)) (rows : List Row) (asks : List Command) (at : ℕ) (ask : Command) (whole old new : List ℕ)
    → at < length asks → ask ≡ get_or asks at ask → new ≡ old ++ ask_lines names (asked_name ask) (column at rows)
    → whole ≡ old ++ gain_lines names rows at (drop at asks) → whole ≡ new ++ gain_lines names rows (at + 1) (drop (at + 1) asks)
unfolding gain_lines
gains_more names rows asks at ask whole old new within is more left =
    left
    ∙ ap (λ (l : List Command). old ++ gain_lines names rows at l)
    (drop_more asks at ask within ∙ ap (λ (c : Command). c ∷ drop (at + 1) asks) (sym is))
    ∙ sym (append_assoc old (ask_lines names (asked_name ask) (column at rows)) (gain_lines names rows (at + 1) (drop (at + 1) asks)))
    ∙ ap (λ (l : List ℕ). l ++ gain_lines names rows (at + 1) (drop (at + 1) asks)) (sym more)

pub gains_end : (names : List (List ℕ)) (rows : List Row) (asks : List Command) (at : ℕ) (whole old : List ℕ) → length asks ≤ at
    → whole ≡ old ++ gain_lines names rows at (drop at asks) → old ≡ whole
unfolding gain_lines
gains_end names rows asks at whole old past left =
    sym (left ∙ ap (λ (l : List Command). old ++ gain_lines names rows at l) (drop_all at asks past) ∙ append-nil old)
