-- A line more of a conversation.
use Rattle.std.proofs.Common.{◌≡◌, ◌⊎◌, inl, inr, ◌∙◌, ap, sym, refl, ℕ, ◌<◌, Bool, true, List, ◌∷◌, ◌++◌, length, append_assoc, arith, Option, Result, Ok, Err}
use Rattle.std.specs.Prelude.{nat_lt, is_err, is_some, IsErrOf}
use Rattle.std.proofs.lemmas.Bool.Decides.{nat_tests}
use Rattle.std.proofs.lemmas.List.{length-append}
use Rattle.desk_terms.specs.Bench.{counted, logged}
use Rattle.session_model.specs.Course.{Meaning}
use Rattle.session_rounds.proofs.Going.{counted_more, logged_more}
use Rattle.tool_live.specs.Answers.{IsFrontOf}
use Rattle.live_model.specs.declared.limits.TheConstants.{MOST_LINE}
use Rattle.live_model.specs.Live.{Live, Saying, known_of, meaning, answered, counted as counted_in, said, ready_text, spoken, unclosed, conversation}
use Rattle.live_session.specs.declared.fault.SayFault.{SayFault}
use Rattle.live_session.specs.declared.fault.SayFault.TheVariants.{Stopped, TooManyLines, NoMemory}

-- a line was answered by these lines, and is told as done or not
module _ {P : Type 0} (m : Meaning P) (ready : Bool) (s : Live P) (line : List ℕ) (rest : List (List ℕ)) where
  abbrev first : Saying P
  first = said m s line

  abbrev after : List ℕ
  after = conversation m ready first.next rest

  pub told_more : (answers mid new : List ℕ) (next : Live P) → next ≡ first.next → mid ≡ answers ++ first.lines
      → new ≡ mid ++ ready_text ready next.line → new ++ conversation m ready next rest ≡ answers ++ conversation m ready s (line ∷ rest)
  unfolding spoken
  told_more answers mid new next is put told =
      let ready_line = ready_text ready first.next.line in
      let more = (spoken m ready first.next rest).lines in
      let last = unclosed (spoken m ready first.next rest).next.block in
      ap (λ (l : List ℕ). l ++ conversation m ready next rest) told
      ∙ ap (λ (n : Live P). (mid ++ ready_text ready n.line) ++ conversation m ready n rest) is
      ∙ ap (λ (l : List ℕ). (l ++ ready_line) ++ after) put
      ∙ ap (λ (l : List ℕ). l ++ after) (append_assoc answers first.lines ready_line)
      ∙ append_assoc answers (first.lines ++ ready_line) after
      ∙ ap (λ (l : List ℕ). answers ++ l) (sym (append_assoc (first.lines ++ ready_line) more last))

  pub counted_on : (before now : ℕ) (next : Live P) → next ≡ first.next → now ≡ counted before (length first.calls)
      → counted now (length (spoken m ready next rest).calls) ≡ counted before (length (spoken m ready s (line ∷ rest)).calls)
  unfolding spoken
  counted_on before now next is made =
      ap (λ (n : ℕ). counted n (length (spoken m ready next rest).calls)) made
      ∙ ap (λ (n : Live P). counted (counted before (length first.calls)) (length (spoken m ready n rest).calls)) is
      ∙ counted_more before (length first.calls) (length (spoken m ready first.next rest).calls)
      ∙ ap (counted before) (sym (length-append first.calls (spoken m ready first.next rest).calls))

  pub logged_on : (before now : Option (List (ℕ × Bool))) (next : Live P) → next ≡ first.next → now ≡ logged before first.calls
      → logged now (spoken m ready next rest).calls ≡ logged before (spoken m ready s (line ∷ rest)).calls
  unfolding spoken
  logged_on before now next is made =
      ap (λ (l : Option (List (ℕ × Bool))). logged l (spoken m ready next rest).calls) made
      ∙ ap (λ (n : Live P). logged (logged before first.calls) (spoken m ready n rest).calls) is
      ∙ logged_more before first.calls (spoken m ready first.next rest).calls

  -- a front of its lines is a front of the conversation
  pub front_of_line : (answers new front left : List ℕ) → first.lines ≡ front ++ left → new ≡ answers ++ front
      → IsFrontOf new (answers ++ conversation m ready s (line ∷ rest))
  unfolding spoken
  front_of_line answers new front left whole is =
      let ready_line = ready_text ready first.next.line in
      let more = (spoken m ready first.next rest).lines in
      let last = unclosed (spoken m ready first.next rest).next.block in (
        ((left ++ ready_line) ++ more) ++ last,
        ap (λ (l : List ℕ). answers ++ (((l ++ ready_line) ++ more) ++ last)) whole
            ∙ ap (λ (l : List ℕ). answers ++ ((l ++ more) ++ last)) (append_assoc front left ready_line)
            ∙ ap (λ (l : List ℕ). answers ++ (l ++ last)) (append_assoc front (left ++ ready_line) more)
            ∙ ap (λ (l : List ℕ). answers ++ l) (append_assoc front ((left ++ ready_line) ++ more) last)
            ∙ sym (append_assoc answers front (((left ++ ready_line) ++ more) ++ last))
            ∙ ap (λ (l : List ℕ). l ++ (((left ++ ready_line) ++ more) ++ last)) (sym is),
      )

-- nothing was put
pub front_none : (answers new all : List ℕ) → new ≡ answers → IsFrontOf new (answers ++ all)
front_none answers new all is = (all, ap (λ (l : List ℕ). l ++ all) (sym is))

-- why a line was not taken
pub untaken : {A Q : Type 0} (r : Result A SayFault) → is_err r ≡ true → (IsErrOf r NoMemory → Q)
    → (IsErrOf r Stopped ⊎ IsErrOf r TooManyLines → Q) → Q
untaken (Ok x) err halts kept = absurd (cc)
untaken (Err NoMemory) err halts kept = halts refl
untaken (Err Stopped) err halts kept = kept (inl refl)
untaken (Err TooManyLines) err halts kept = kept (inr refl)

-- ---- lines that are too long

long_means : {P : Type 0} (m : Meaning P) (s : Live P) (line other : List ℕ) → MOST_LINE < length line → MOST_LINE < length other
    → meaning (known_of s) (is_some s.block) other ≡ meaning (known_of s) (is_some s.block) line
unfolding meaning
long_means m s line other long too =
    let a : nat_lt MOST_LINE (length line) ≡ true = grind (arith, nat_tests, long) in
    let b : nat_lt MOST_LINE (length other) ≡ true = grind (arith, nat_tests, too) in
    rw (a, b) refl

said_alike : {P : Type 0} (m : Meaning P) (s : Live P) (line other : List ℕ) → MOST_LINE < length line → MOST_LINE < length other
    → said m s other ≡ said m s line
unfolding said
said_alike m s line other long too = ap (answered m (counted_in s)) (long_means m s line other long too)

-- what comes of a line, and of those behind it
abbrev spoken_on : {P : Type 0} → Meaning P → Bool → List (List ℕ) → Saying P → Saying P
spoken_on m ready rest t = record {
  lines = (t.lines ++ ready_text ready t.next.line) ++ (spoken m ready t.next rest).lines;
  calls = t.calls ++ (spoken m ready t.next rest).calls;
  next = (spoken m ready t.next rest).next;
}

module _ {P : Type 0} (m : Meaning P) (ready : Bool) (s : Live P) (line other : List ℕ) (rest : List (List ℕ)) (long : MOST_LINE < length line)
    (too : MOST_LINE < length other) where
  spoken_alike : spoken m ready s (other ∷ rest) ≡ spoken m ready s (line ∷ rest)
  unfolding spoken
  spoken_alike = ap (spoken_on m ready rest) (said_alike m s line other long too)

  pub conversation_alike : conversation m ready s (other ∷ rest) ≡ conversation m ready s (line ∷ rest)
  conversation_alike = ap (λ (t : Saying P). t.lines ++ unclosed t.next.block) spoken_alike

  pub calls_alike : (spoken m ready s (other ∷ rest)).calls ≡ (spoken m ready s (line ∷ rest)).calls
  calls_alike = ap (λ (t : Saying P). t.calls) spoken_alike
