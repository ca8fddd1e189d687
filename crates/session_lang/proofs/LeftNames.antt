-- The names that lines leave, said without the reader: a line with a fault adds none.
use Rattle.std.proofs.Common.{◌≡◌, ℕ, ◌+◌, ◌-◌, ◌<◌, ◌≤◌, Bool, true, false, cond, List, [], ◌∷◌, ◌++◌, length, take, nat_lt, Option, Some, None, is_some, Result, Ok, Err, refl, sym, ap, subst, ◌∙◌, append_assoc, arith, ⊎_elim}
use Rattle.std.specs.Str.Lines.{lines}
use Rattle.std.proofs.lemmas.Bool.{cases_lt, ltb-true, ltb-false}
use Rattle.std.proofs.lemmas.List.{append-nil, take_at, length_push}
use Rattle.std.proofs.Math.Seq.{take-length}
use Rattle.desk_names.specs.Names.{IsNames}
use Rattle.session_commands.specs.declared.script.Script.{Script}
use Rattle.session_commands.specs.declared.script_kind.ScriptKind.{ScriptKind}
use Rattle.session_lang.specs.declared.statement.Statement.{Statement}
use Rattle.session_lang.specs.declared.fault.ScriptFault.{ScriptFault}
use Rattle.session_lang.specs.declared.fault.ScriptFault.TheVariants as script
use Rattle.script_words.specs.declared.line_fault.LineFault.{LineFault}
use Rattle.script_words.specs.declared.line_fault.LineFault.TheVariants as fault
use Rattle.script_words.specs.Given.{Fails, Keeps}
use Rattle.script_words.specs.Line.{words_of}
use Rattle.session_lang.specs.Given.{at_number}
use Rattle.session_lang.specs.Statement.{Known, line_meaning}
use Rattle.session_lang.specs.Reading.{opened, after_line, names_left, most_bytes, script_left, Leaves, AreLeft}
use Rattle.session_lang.specs.FirstFault.{first_of, names_after, begun_after, is_inside, fault_at, AreFaultless, IsFirstFaulty, KeepsNames, FaultKeeps}
use Rattle.session_lang.proofs.ReadLines.{LineRead, line_is_read}
use Rattle.session_lang.proofs.FaultLines.{known_after, LineIs, line_is, at_place, place_there, some_opened, inside_push}
use Rattle.session_lang.proofs.FaultScript.{apart, one_place, no_names}

-- a line without a fault
pub left_more : (known next : Known) (open_at o : Option ℕ) (number : ℕ) (st : Statement) (line : List ℕ) (inside : Bool) → inside ≡ is_some open_at → line_meaning known inside line ≡ Ok (st, next) → o ≡ opened st number open_at → (rest : List (List ℕ)) → names_left known open_at number (line ∷ rest) ≡ names_left next o (number + 1) rest
unfolding names_left
left_more known next open_at o number st line inside hi read ho rest =
    ap (λ i. after_line known.names (λ said. names_left said.1 (opened said.0 number open_at) (number + 1) rest) (line_meaning known i line)) (sym hi)
    ∙ ap (after_line known.names (λ said. names_left said.1 (opened said.0 number open_at) (number + 1) rest)) read
    ∙ ap (λ x. names_left next x (number + 1) rest) (sym ho)

-- a line with a fault
pub left_here : (known : Known) (open_at : Option ℕ) (number : ℕ) (e : LineFault) (line : List ℕ) (inside : Bool) (new : List (List ℕ)) → inside ≡ is_some open_at → Fails e (line_meaning known inside line) → Keeps {X = Statement} (Err e) known.names new → (next : Option ℕ → List (List ℕ)) (rest : List (List ℕ)) → Leaves (Err (at_number number e)) new next (names_left known open_at number (line ∷ rest))
unfolding names_left
left_here known open_at number fault.NoMemory line inside new hi read keeps next rest = tt
left_here known open_at number (fault.Kind k) line inside new hi read keeps next rest =
    ap (λ i. after_line known.names (λ said. names_left said.1 (opened said.0 number open_at) (number + 1) rest) (line_meaning known i line)) (sym hi)
    ∙ ap (after_line known.names (λ said. names_left said.1 (opened said.0 number open_at) (number + 1) rest)) read
    ∙ sym keeps

-- no line left
pub left_end : (known : Known) (open_at : Option ℕ) (number : ℕ) (all : List (List ℕ)) → all ≡ [] → names_left known open_at number all ≡ known.names
unfolding names_left
left_end known open_at number all h = ap (names_left known open_at number) h

-- the names that the lines from a place on leave: those after the lines before the first with a fault
record LeftFrom (names : List (List ℕ)) (from : ℕ) (ls left : List (List ℕ)) : Type 0 where
  at : ℕ
  left_is : left ≡ names_after names (take at ls)
  within : at ≤ length ls
  fine : (i : ℕ) → from ≤ i → i < at → fault_at names ls i ≡ None
  ends : at < length ls → (k : ScriptKind) × (fault_at names ls at ≡ Some k)

module _ (names ls : List (List ℕ)) where
  from_line : (above rest : List (List ℕ)) (line : List ℕ) (left : List (List ℕ)) → above ++ line ∷ rest ≡ ls → fault_at names ls (length above) ≡ None → LeftFrom names (length above + 1) ls left → LeftFrom names (length above) ls left
  from_line above rest line left e none h = record {
    at = h.at;
    left_is = h.left_is;
    within = h.within;
    fine = λ i low lt. ⊎_elim
        (λ less. let same : i ≡ length above = omega (arith, low, less) in ap (fault_at names ls) same ∙ none)
        (λ more. h.fine i more lt)
        (cases_lt i (length above + 1));
    ends = h.ends;
  }

  left_from : (above rest : List (List ℕ)) (open_at : Option ℕ) → above ++ rest ≡ ls → IsNames (names_after names above) → IsNames (begun_after above) → is_some open_at ≡ is_inside above → LeftFrom names (length above) ls (names_left (known_after names above) open_at (length above + 1) rest)
  unfolding names_left
  left_from above [] open_at e sound begun inside =
      let same : above ≡ ls = sym (append-nil above) ∙ e in
      record {
        at = length ls;
        left_is = ap (names_after names) (same ∙ sym (take-length ls));
        within = omega arith;
        fine = λ i low lt. absurd (omega (arith, low, lt, ap (λ l. length l) same));
        ends = λ lt. absurd (omega (arith, lt));
      }
  left_from above (line ∷ rest) open_at e sound begun inside =
      step (λ o names_kept begun_kept inside_kept. left_from (above ++ line ∷ []) rest o (append_assoc above (line ∷ []) rest ∙ e) names_kept begun_kept inside_kept)
      (line_meaning (known_after names above) (is_some open_at) line) refl
      (subst (λ i. LineIs names above line (line_meaning (known_after names above) i line)) (sym inside) (line_is names above line sound))
    where
      step : ((o : Option ℕ) → IsNames (names_after names (above ++ line ∷ [])) → IsNames (begun_after (above ++ line ∷ [])) → is_some o ≡ is_inside (above ++ line ∷ [])
          → LeftFrom names (length (above ++ line ∷ [])) ls (names_left (known_after names (above ++ line ∷ [])) o (length (above ++ line ∷ []) + 1) rest))
          → (r : Result (Statement × Known) ScriptKind) → line_meaning (known_after names above) (is_some open_at) line ≡ r → LineIs names above line r
          → LeftFrom names (length above) ls (after_line (names_after names above) (λ said. names_left said.1 (opened said.0 (length above + 1) open_at) (length above + 1 + 1) rest) r)
      step go (Err k) read h = record {
        at = length above;
        left_is = ap (names_after names) (sym (take_at above (line ∷ rest) (length above) refl) ∙ ap (take (length above)) e);
        within = omega (arith, place_there ls above rest line e);
        fine = λ i low lt. absurd (omega (arith, low, lt));
        ends = λ lt. (k, at_place names ls above rest line e ∙ h);
      }
      step go (Ok x) read h =
          let was : LineRead (known_after names above) x.1 x.0 = line_is_read (known_after names above) x.1 (is_some open_at) line x.0 sound begun read in
          from_line above rest line (names_left x.1 (opened x.0 (length above + 1) open_at) (length above + 1 + 1) rest) e (at_place names ls above rest line e ∙ h.fine)
          (subst (λ k. LeftFrom names (length above + 1) ls (names_left k (opened x.0 (length above + 1) open_at) (length above + 1 + 1) rest)) (sym h.next_is)
          (subst (λ n. LeftFrom names n ls (names_left (known_after names (above ++ line ∷ [])) (opened x.0 (length above + 1) open_at) (n + 1) rest)) (length_push above line)
          (go (opened x.0 (length above + 1) open_at)
          (subst (λ k. IsNames k.names) h.next_is was.names_kept) (subst (λ k. IsNames k.begun) h.next_is was.begun_kept)
          (some_opened x.0 (length above + 1) open_at (is_inside above) (first_of (words_of line)) h.shows inside ∙ sym (inside_push above line)))))

  -- the place of the first fault is that of the first faulty line, where there is one
  at_faulty : (left : List (List ℕ)) (n : ℕ) (k : ScriptKind) (h : LeftFrom names 0 ls left) (f : IsFirstFaulty names ls n k) → h.at ≡ f.at
  at_faulty left n k h f = one_place h.at f.at
      (λ lt. let there : h.at < length ls = omega (arith, lt, f.there) in let told = h.ends there in apart (fault_at names ls h.at) told.0 (f.first h.at lt) told.1)
      (λ lt. apart (fault_at names ls f.at) k (h.fine f.at (omega arith) lt) f.has)

  faulty_left : (left : List (List ℕ)) (n : ℕ) (k : ScriptKind) → LeftFrom names 0 ls left → IsFirstFaulty names ls n k → left ≡ names_after names (take (n - 1) ls)
  faulty_left left n k h f =
      let same : h.at ≡ n - 1 = omega (arith, at_faulty left n k h f, f.number) in
      h.left_is ∙ ap (λ at. names_after names (take at ls)) same

  all_left : (left : List (List ℕ)) → LeftFrom names 0 ls left → AreFaultless names ls → left ≡ names_after names ls
  all_left left h fine = ⊎_elim
      (λ lt. absurd (let told = h.ends lt in apart (fault_at names ls h.at) told.0 (fine h.at lt) told.1))
      (λ ge. let same : h.at ≡ length ls = omega (arith, ge, h.within) in h.left_is ∙ ap (λ at. names_after names (take at ls)) same ∙ ap (names_after names) (take-length ls))
      (cases_lt h.at (length ls))

left_keeps : (names : List (List ℕ)) (text : List ℕ) (n : ℕ) (k : ScriptKind) → IsNames names → KeepsNames names text n k (script_left names text)
left_keeps names text n k sound = record {
  too_long = λ long. by_long (nat_lt most_bytes (length text)) refl long;
  in_line = λ short f. short_left short ∙ faulty_left names (lines text) all n k from f;
  whole = λ short fine. short_left short ∙ all_left names (lines text) all from fine;
}
  where
    all : List (List ℕ)
    all = names_left (record { names = names; begun = [] }) None 1 (lines text)

    from : LeftFrom names 0 (lines text) all
    from = left_from names (lines text) [] (lines text) None refl sound no_names refl

    by_long : (b : Bool) → nat_lt most_bytes (length text) ≡ b → most_bytes < length text → cond b names all ≡ names
    by_long true h long = refl
    by_long false h long = absurd (omega (arith, ltb-false most_bytes (length text) h, long))

    short_by : (b : Bool) → nat_lt most_bytes (length text) ≡ b → length text ≤ most_bytes → cond b names all ≡ all
    short_by true h short = absurd (omega (arith, ltb-true most_bytes (length text) h, short))
    short_by false h short = refl

    short_left : length text ≤ most_bytes → script_left names text ≡ all
    short_left short = short_by (nat_lt most_bytes (length text)) refl short

-- the names behind an answer of the reader
pub kept_answer : (names new : List (List ℕ)) (text : List ℕ) (r : Result Script ScriptFault) → IsNames names → AreLeft r new (script_left names text) → FaultKeeps names text new r
kept_answer names new text (Ok s) sound h = tt
kept_answer names new text (Err script.NoMemory) sound h = tt
kept_answer names new text (Err (script.At line k)) sound h = subst (KeepsNames names text line k) (sym h) (left_keeps names text line k sound)
