-- One block after the other: what is done, and what is left.
use Rattle.std.proofs.Common.{◌≡◌, ℕ, Bool, List, [], ◌∷◌, ◌++◌, Option, refl, sym, ◌∙◌, ap, subst}
use Rattle.std.proofs.lemmas.List.{append_assoc, append-nil}
use Rattle.tool_frame.specs.Calls.{Makes, Begins}
use Rattle.tool_script.proofs.Calling.{makes_both, begins_first, begins_second}
use Rattle.tool_frame.proofs.Calling.{makes_none}

abbrev Log : Type 0
Log = Option (List (ℕ × Bool))

abbrev Calls : Type 0
Calls = List (ℕ × Bool)

-- all lines that there are to be, all rows, and all computations
module _ {R : Type 0} (all_lines : List ℕ) (all_rows : List R) (all_calls : Calls) (count : ℕ) (log : Log) where
  -- THE BLOCKS SO FAR: their lines, what they show, and what was computed for them; these are left
  pub record Past (lines_left : List ℕ) (rows_left : List R) (calls_left : Calls) (lines : List ℕ) (rows : List R) (now : ℕ)
      (log_now : Log) : Type 0 where
    pub texts : all_lines ≡ lines ++ lines_left
    pub shown : all_rows ≡ rows ++ rows_left
    pub calls : Calls
    pub makes : Makes calls count now log log_now
    pub whole : all_calls ≡ calls ++ calls_left

  module _ (text : List ℕ) (row : R) (own : Calls) (lines_left : List ℕ) (rows_left : List R) (calls_left : Calls) (lines : List ℕ)
      (rows : List R) (now : ℕ) (log_now : Log)
      (past : Past (text ++ lines_left) (row ∷ rows_left) (own ++ calls_left) lines rows now log_now) where
    -- one more
    pub past_more : (lines_later : List ℕ) (rows_later : List R) (later : ℕ) (log_later : Log) → lines_later ≡ lines ++ text
        → rows_later ≡ rows ++ row ∷ [] → Makes own now later log_now log_later
        → Past lines_left rows_left calls_left lines_later rows_later later log_later
    past_more lines_later rows_later later log_later written shows makes = record {
      texts = past.texts ∙ sym (append_assoc lines text lines_left) ∙ ap (λ (l : List ℕ). l ++ lines_left) (sym written);
      shown = past.shown ∙ sym (append_assoc rows (row ∷ []) rows_left) ∙ ap (λ (l : List R). l ++ rows_left) (sym shows);
      calls = past.calls ++ own;
      makes = makes_both past.calls own count now later log log_now log_later past.makes makes;
      whole = past.whole ∙ sym (append_assoc past.calls own calls_left);
    }

    -- memory runs out in it
    pub past_begins : (later : ℕ) (log_later : Log) → Begins own now later log_now log_later → Begins all_calls count later log log_later
    past_begins later log_later b =
        subst (λ (calls : Calls). Begins calls count later log log_later) (sym past.whole)
        (begins_second past.calls (own ++ calls_left) count now later log log_now log_later past.makes
        (begins_first own calls_left now later log_now log_later b))

  -- all are there
  module _ (lines : List ℕ) (rows : List R) (now : ℕ) (log_now : Log) (past : Past [] [] [] lines rows now log_now) where
    pub past_lines : lines ≡ all_lines
    past_lines = sym (past.texts ∙ append-nil lines)

    pub past_rows : rows ≡ all_rows
    past_rows = sym (past.shown ∙ append-nil rows)

    pub past_makes : Makes all_calls count now log log_now
    past_makes = subst (λ (calls : Calls). Makes calls count now log log_now) (sym (past.whole ∙ append-nil past.calls)) past.makes

-- none is done
pub past_none : {R : Type 0} (lines lines_left : List ℕ) (rows_left : List R) (calls_left : Calls) (count : ℕ) (log : Log)
    → Past (lines ++ lines_left) rows_left calls_left count log lines_left rows_left calls_left lines [] count log
past_none lines lines_left rows_left calls_left count log =
    record { texts = refl; shown = refl; calls = []; makes = makes_none count log; whole = refl }
