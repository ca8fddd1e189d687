-- Line after line: the first faulty line, said without the reader, is the one that the reader tells.
use Rattle.std.proofs.Common.{◌≡◌, ℕ, ◌+◌, ◌-◌, ◌<◌, ◌≤◌, Bool, true, false, not, ◌||◌, cond, List, [], ◌∷◌, ◌++◌, length, map, filter, slice_index_or, Option, Some, None, is_some, Result, Ok, Err, refl, sym, ap, subst, ◌∙◌, length-append, append_assoc, arith, ⊎_elim}
use Rattle.std.specs.List.{list_all, list_any, find, flat_map}
use Rattle.std.proofs.lemmas.Bool.{cases_lt}
use Rattle.std.proofs.lemmas.List.{append-nil, map-append, get_or_push, get_or_at, get_or_append_left, take_at, length_push}
use Rattle.std.proofs.lemmas.List.Concat.{flat_map-append}
use Rattle.std.proofs.lemmas.List.Elements.{filter-append}
use Rattle.desk_names.specs.Names.{IsNames, with_text, has_text}
use Rattle.session_commands.specs.declared.script_kind.ScriptKind.{ScriptKind}
use Rattle.session_commands.specs.declared.script_kind.ScriptKind.TheVariants as fault
use Rattle.script_words.specs.Given.{◌>>=◌, Grows}
use Rattle.script_words.proofs.Interning.{grows_same, grows_with, grows_on}
use Rattle.script_words.specs.Line.{is_good, words_of}
use Rattle.session_lang.specs.declared.statement.Statement.{Statement}
use Rattle.session_lang.specs.declared.statement.Statement.TheVariants.{Blank, Begin, End, Run}
use Rattle.session_lang.specs.declared.steps.Step.{Step}
use Rattle.session_lang.specs.Statement.{Known, or_fault, words_meaning, line_meaning}
use Rattle.session_lang.specs.Reading.{Said, said_before, kept, opened, at_line, lines_meaning, action_of, lacks_action, lacks, line_of}
use Rattle.session_lang.specs.FirstFault.{First, first_of, further, is_begin, is_mark, names_in, begun_in, with_texts, names_after, begun_after, last_of, is_inside, where_so, first_some, words_faults, line_fault, fault_at, actions_at, places, is_lacking, line_at, IsLastBegun}
use Rattle.session_lang.proofs.ReadLines.{LineRead, line_is_read}
use Rattle.session_lang.proofs.FaultWords.{Shows, ActsIs, Acts, WordsAre, words_are}

pub with_texts-append : (names a b : List (List ℕ)) → with_texts names (a ++ b) ≡ with_texts (with_texts names a) b
with_texts-append names [] b = refl
with_texts-append names (t ∷ a) b = with_texts-append (with_text names t) a b

-- one line more
pub names_push : (names above : List (List ℕ)) (line : List ℕ) → names_after names (above ++ line ∷ []) ≡ with_texts (names_after names above) (names_in (words_of line))
names_push names above line =
    ap (with_texts names) (flat_map-append (λ l. names_in (words_of l)) above (line ∷ []))
    ∙ ap (λ more. with_texts names (flat_map (λ l. names_in (words_of l)) above ++ more)) (append-nil (names_in (words_of line)))
    ∙ with_texts-append names (flat_map (λ l. names_in (words_of l)) above) (names_in (words_of line))

begun_push : (above : List (List ℕ)) (line : List ℕ) → begun_after (above ++ line ∷ []) ≡ begun_after above ++ begun_in (words_of line)
begun_push above line =
    flat_map-append (λ l. begun_in (words_of l)) above (line ∷ [])
    ∙ ap (λ more. begun_after above ++ more) (append-nil (begun_in (words_of line)))

last_push : (marks : List Bool) (b : Bool) → last_of (marks ++ b ∷ []) ≡ b
last_push marks b = get_or_push marks b false (length (marks ++ b ∷ []) - 1) (simp length-append (omega arith))

pub inside_push : (above : List (List ℕ)) (line : List ℕ) → is_inside (above ++ line ∷ []) ≡ cond (is_mark (first_of (words_of line))) (is_begin (first_of (words_of line))) (is_inside above)
inside_push above line =
    ap (λ fs. last_of (map is_begin (filter is_mark fs))) (map-append (λ l. first_of (words_of l)) above (line ∷ []))
    ∙ ap (λ fs. last_of (map is_begin fs)) (filter-append is_mark firsts (first_of (words_of line) ∷ []))
    ∙ by (is_mark (first_of (words_of line)))
  where
    firsts : List First
    firsts = map (λ l. first_of (words_of l)) above

    by : (m : Bool) → last_of (map is_begin (filter is_mark firsts ++ cond m (first_of (words_of line) ∷ []) [])) ≡ cond m (is_begin (first_of (words_of line))) (last_of (map is_begin (filter is_mark firsts)))
    by true = ap last_of (map-append is_begin (filter is_mark firsts) (first_of (words_of line) ∷ [])) ∙ last_push (map is_begin (filter is_mark firsts)) (is_begin (first_of (words_of line)))
    by false = ap (λ fs. last_of (map is_begin fs)) (append-nil (filter is_mark firsts))

-- what lines leave to the line behind them
abbrev pub known_after : List (List ℕ) → List (List ℕ) → Known
known_after names above = record { names = names_after names above; begun = begun_after above }

-- a line that is read has no fault, and this is known behind it
pub record Went (names above : List (List ℕ)) (line : List ℕ) (st : Statement) (next : Known) : Type 0 where
  pub fine : line_fault names above line ≡ None
  pub next_is : next ≡ known_after names (above ++ line ∷ [])
  pub shows : Shows st (first_of (words_of line))
  pub acts : Acts next.names st (first_of (words_of line)) (further (words_of line))

abbrev pub LineIs : List (List ℕ) → List (List ℕ) → List ℕ → Result (Statement × Known) ScriptKind → Type 0
LineIs names above line (Ok x) = Went names above line x.0 x.1
LineIs names above line (Err k) = line_fault names above line ≡ Some k

known_is : (next : Known) (n b : List (List ℕ)) → next.names ≡ n → next.begun ≡ b → next ≡ record { names = n; begun = b }
known_is next n b hn hb = ap (λ x. record { names = x; begun = next.begun }) hn ∙ ap (λ x. record { names = n; begun = x }) hb

-- what a line says, and its first fault
pub line_is : (names above : List (List ℕ)) (line : List ℕ) → IsNames (names_after names above) → LineIs names above line (line_meaning (known_after names above) (is_inside above) line)
unfolding line_meaning
line_is names above line few = by (list_all is_good line) refl
  where
    W : List (List ℕ)
    W = words_of line

    told : Bool → Option ScriptKind
    told good = or_fault (where_so (not good) fault.Byte) (first_some (words_faults (names_after names above) (begun_after above) (is_inside above) (first_of (words_of line)) (further (words_of line))))

    goes : (r : Result (Statement × Known) ScriptKind) → WordsAre (names_after names above) (begun_after above) (is_inside above) (first_of (words_of line)) (further (words_of line)) r → list_all is_good line ≡ true → LineIs names above line r
    goes (Err k) h good = ap (λ g. or_fault (where_so (not g) fault.Byte) (first_some (words_faults (names_after names above) (begun_after above) (is_inside above) (first_of (words_of line)) (further (words_of line))))) good ∙ h
    goes (Ok x) h good = record {
      fine = ap (λ g. or_fault (where_so (not g) fault.Byte) (first_some (words_faults (names_after names above) (begun_after above) (is_inside above) (first_of (words_of line)) (further (words_of line))))) good ∙ h.fine;
      next_is = known_is x.1 (names_after names (above ++ line ∷ [])) (begun_after (above ++ line ∷ [])) (h.names_are ∙ sym (names_push names above line)) (h.begun_are ∙ sym (begun_push above line));
      shows = h.shows;
      acts = h.acts;
    }

    by : (good : Bool) → list_all is_good line ≡ good → LineIs names above line (cond good (words_meaning (known_after names above) (is_inside above) (words_of line)) (Err fault.Byte))
    by true h = goes (words_meaning (known_after names above) (is_inside above) (words_of line)) (words_are (names_after names above) (begun_after above) (is_inside above) (words_of line) few) h
    by false h = ap (λ g. or_fault (where_so (not g) fault.Byte) (first_some (words_faults (names_after names above) (begun_after above) (is_inside above) (first_of (words_of line)) (further (words_of line))))) h

-- the line of a block that stands open: the last that begins one
abbrev pub OpenIs : List (List ℕ) → Option ℕ → Type 0
OpenIs ls None = Unit {0}
OpenIs ls (Some number) = IsLastBegun ls number

-- the first faulty line among those from a place on
pub record FaultyFrom (names : List (List ℕ)) (from : ℕ) (ls : List (List ℕ)) (e : ℕ × ScriptKind) : Type 0 where
  pub at : ℕ
  pub number : e.0 ≡ at + 1
  pub low : from ≤ at
  pub there : at < length ls
  pub has : fault_at names ls at ≡ Some e.1
  pub first : (i : ℕ) → from ≤ i → i < at → fault_at names ls i ≡ None

-- the first line from a place on that names an action that no line begins
pub record LackFrom (from : ℕ) (ls : List (List ℕ)) (n : ℕ) : Type 0 where
  pub at : ℕ
  pub number : n ≡ at + 1
  pub low : from ≤ at
  pub there : at < length ls
  pub has : is_lacking ls (slice_index_or ls at []) ≡ true
  pub first : (i : ℕ) → from ≤ i → i < at → is_lacking ls (slice_index_or ls i []) ≡ false

abbrev pub FoundFrom : ℕ → List (List ℕ) → Option ℕ → Type 0
FoundFrom from ls None = (i : ℕ) → from ≤ i → i < length ls → is_lacking ls (slice_index_or ls i []) ≡ false
FoundFrom from ls (Some n) = LackFrom from ls n

-- no line from a place on has a fault, and this is known behind the last
pub record FineFrom (names : List (List ℕ)) (from : ℕ) (ls : List (List ℕ)) (said : Said) : Type 0 where
  pub fine : (i : ℕ) → from ≤ i → i < length ls → fault_at names ls i ≡ None
  pub known_is : said.known ≡ known_after names ls
  pub inside_is : is_some said.open_at ≡ is_inside ls
  pub open_is : OpenIs ls said.open_at
  pub found : FoundFrom from ls (line_of (find (λ step. lacks (known_after names ls) step.what) said.steps))

abbrev pub LinesAre : List (List ℕ) → ℕ → List (List ℕ) → Result Said (ℕ × ScriptKind) → Type 0
LinesAre names from ls (Ok said) = FineFrom names from ls said
LinesAre names from ls (Err e) = FaultyFrom names from ls e

pub at_place : (names ls above rest : List (List ℕ)) (line : List ℕ) → above ++ line ∷ rest ≡ ls → fault_at names ls (length above) ≡ line_fault names above line
at_place names ls above rest line e =
    ap (λ l. fault_at names l (length above)) (sym e)
    ∙ ap (λ t. line_fault names t (slice_index_or (above ++ line ∷ rest) (length above) [])) (take_at above (line ∷ rest) (length above) refl)
    ∙ ap (line_fault names above) (get_or_at above line rest [] (length above) refl)

pub place_there : (ls above rest : List (List ℕ)) (line : List ℕ) → above ++ line ∷ rest ≡ ls → length above < length ls
place_there ls above rest line e = omega (arith, simp length-append at (ap (λ l. length l) e))

pub some_opened : (st : Statement) (number : ℕ) (open_at : Option ℕ) (inside : Bool) (f : First) → Shows st f → is_some open_at ≡ inside → is_some (opened st number open_at) ≡ cond (is_mark f) (is_begin f) inside
some_opened Blank number open_at inside f h e = e ∙ ap (λ m. cond m (is_begin f) inside) (sym h)
some_opened (Run c) number open_at inside f h e = e ∙ ap (λ m. cond m (is_begin f) inside) (sym h)
some_opened End number open_at inside f h e = sym h.0 ∙ ap (λ m. cond m (is_begin f) inside) (sym h.1)
some_opened (Begin name) number open_at inside f h e = sym h.0 ∙ ap (λ m. cond m (is_begin f) inside) (sym h.1)

last_line : (above : List (List ℕ)) (line : List ℕ) → line_at (above ++ line ∷ []) (length above) ≡ first_of (words_of line)
last_line above line = ap (λ l. first_of (words_of l)) (get_or_push above line [] (length above) refl)

still_open : (above : List (List ℕ)) (line : List ℕ) (open_at : Option ℕ) → is_mark (first_of (words_of line)) ≡ false → OpenIs above open_at → OpenIs (above ++ line ∷ []) open_at
still_open above line None h o = tt
still_open above line (Some number) h o = record {
  at = o.at;
  number = o.number;
  there = omega (arith, o.there, length_push above line);
  begins = ap (λ l. is_begin (first_of (words_of l))) (get_or_append_left above (line ∷ []) [] o.at o.there) ∙ o.begins;
  last = λ later low high. ⊎_elim
      (λ lt. ap (λ l. is_mark (first_of (words_of l))) (get_or_append_left above (line ∷ []) [] later lt) ∙ o.last later low lt)
      (λ ge. let e : later ≡ length above = omega (arith, high, ge, length_push above line) in ap (λ i. is_mark (line_at (above ++ line ∷ []) i)) e ∙ ap is_mark (last_line above line) ∙ h)
      (cases_lt later (length above));
}

now_open : (above : List (List ℕ)) (line : List ℕ) (st : Statement) (open_at : Option ℕ) → Shows st (first_of (words_of line)) → OpenIs above open_at → OpenIs (above ++ line ∷ []) (opened st (length above + 1) open_at)
now_open above line Blank open_at h o = still_open above line open_at h o
now_open above line (Run c) open_at h o = still_open above line open_at h o
now_open above line End open_at h o = tt
now_open above line (Begin name) open_at h o = record {
  at = length above;
  number = refl;
  there = omega (arith, length_push above line);
  begins = ap is_begin (last_line above line) ∙ h.0;
  last = λ later low high. absurd (omega (arith, low, high, length_push above line));
}

texts_grow : (names texts : List (List ℕ)) → Grows names (with_texts names texts)
texts_grow names [] = grows_same names
texts_grow names (t ∷ texts) = grows_on names (with_text names t) (with_texts (with_text names t) texts) (grows_with names t) (texts_grow (with_text names t) texts)

names_grow : (names front back : List (List ℕ)) → Grows (names_after names front) (names_after names (front ++ back))
names_grow names front back =
    subst (Grows (names_after names front))
    (sym (ap (with_texts names) (flat_map-append (λ l. names_in (words_of l)) front back) ∙ with_texts-append names (flat_map (λ l. names_in (words_of l)) front) (flat_map (λ l. names_in (words_of l)) back)))
    (texts_grow (names_after names front) (flat_map (λ l. names_in (words_of l)) back))

abbrev lacking_in : List (List ℕ) → List (List ℕ) → Bool
lacking_in begun words = list_any (λ action. not (has_text begun action)) words

not_by : (b : Bool) → cond b false true ≡ (not b || false)
not_by true = refl
not_by false = refl

lacks_by : (K : Known) (names : List (List ℕ)) (o : Option ℕ) (words : List (List ℕ)) → Grows names K.names → ActsIs names o words → lacks_action K o ≡ lacking_in K.begun words
lacks_by K names None words g h = sym (ap (lacking_in K.begun) h)
lacks_by K names (Some n) words g h =
    let text : slice_index_or K.names n [] ≡ h.0 = ap (λ l. slice_index_or l n []) g.whole ∙ get_or_append_left names g.more [] n h.2 ∙ h.3 in
    ap (λ w. cond (has_text K.begun w) false true) text ∙ not_by (has_text K.begun h.0) ∙ sym (ap (lacking_in K.begun) h.1)

-- a statement names an action that no line begins where its line does
lacks_is : (K : Known) (names : List (List ℕ)) (st : Statement) (f : First) (words : List (List ℕ)) → Grows names K.names → Acts names st f words → lacks K st ≡ lacking_in K.begun (actions_at (places f) 0 words)
lacks_is K names (Run c) f words g h = lacks_by K names (action_of c) (actions_at (places f) 0 words) g h
lacks_is K names Blank f words g h = sym (ap (lacking_in K.begun) h)
lacks_is K names End f words g h = sym (ap (lacking_in K.begun) h)
lacks_is K names (Begin name) f words g h = sym (ap (lacking_in K.begun) h)

found_by : (b : Bool) (step : Step) (rest : Option Step) → line_of (cond b (Some step) rest) ≡ cond b (Some step.line) (line_of rest)
found_by true step rest = refl
found_by false step rest = refl

found_kept : (K : Known) (number : ℕ) (st : Statement) (steps : List Step) → line_of (find (λ step. lacks K step.what) (kept number st steps)) ≡ cond (lacks K st) (Some number) (line_of (find (λ step. lacks K step.what) steps))
found_kept K number Blank steps = refl
found_kept K number (Begin name) steps = found_by (lacks K (Begin name)) (record { line = number; what = Begin name }) (find (λ step. lacks K step.what) steps)
found_kept K number End steps = found_by (lacks K End) (record { line = number; what = End }) (find (λ step. lacks K step.what) steps)
found_kept K number (Run c) steps = found_by (lacks K (Run c)) (record { line = number; what = Run c }) (find (λ step. lacks K step.what) steps)

module _ (names ls : List (List ℕ)) where
  line_there : (above rest : List (List ℕ)) (line : List ℕ) → above ++ line ∷ rest ≡ ls → slice_index_or ls (length above) [] ≡ line
  line_there above rest line e = ap (λ l. slice_index_or l (length above) []) (sym e) ∙ get_or_at above line rest [] (length above) refl

  found_more : (above rest : List (List ℕ)) (line : List ℕ) → above ++ line ∷ rest ≡ ls → (b : Bool) → is_lacking ls line ≡ b → (o : Option ℕ) → FoundFrom (length above + 1) ls o → FoundFrom (length above) ls (cond b (Some (length above + 1)) o)
  found_more above rest line e true h o found = record {
    at = length above;
    number = refl;
    low = omega arith;
    there = place_there ls above rest line e;
    has = ap (is_lacking ls) (line_there above rest line e) ∙ h;
    first = λ i low lt. absurd (omega (arith, low, lt));
  }
  found_more above rest line e false h None found = λ i low lt. ⊎_elim
      (λ less. let same : i ≡ length above = omega (arith, low, less) in ap (λ at. is_lacking ls (slice_index_or ls at [])) same ∙ ap (is_lacking ls) (line_there above rest line e) ∙ h)
      (λ more. found i more lt)
      (cases_lt i (length above + 1))
  found_more above rest line e false h (Some n) found = record {
    at = found.at;
    number = found.number;
    low = omega (arith, found.low);
    there = found.there;
    has = found.has;
    first = λ i low lt. ⊎_elim
        (λ less. let same : i ≡ length above = omega (arith, low, less) in ap (λ at. is_lacking ls (slice_index_or ls at [])) same ∙ ap (is_lacking ls) (line_there above rest line e) ∙ h)
        (λ more. found.first i more lt)
        (cases_lt i (length above + 1));
  }

  earlier : (above rest : List (List ℕ)) (line : List ℕ) (st : Statement) → above ++ line ∷ rest ≡ ls → line_fault names above line ≡ None → lacks (known_after names ls) st ≡ is_lacking ls line → (r : Result Said (ℕ × ScriptKind)) → LinesAre names (length above + 1) ls r → LinesAre names (length above) ls (r >>= (λ others. Ok (said_before (length above + 1) st others)))
  earlier above rest line st e fine lack (Err x) h = record {
    at = h.at;
    number = h.number;
    low = omega (arith, h.low);
    there = h.there;
    has = h.has;
    first = λ i low lt. ⊎_elim
        (λ less. let same : i ≡ length above = omega (arith, low, less) in ap (fault_at names ls) same ∙ at_place names ls above rest line e ∙ fine)
        (λ more. h.first i more lt)
        (cases_lt i (length above + 1));
  }
  earlier above rest line st e fine lack (Ok said) h = record {
    fine = λ i low lt. ⊎_elim
        (λ less. let same : i ≡ length above = omega (arith, low, less) in ap (fault_at names ls) same ∙ at_place names ls above rest line e ∙ fine)
        (λ more. h.fine i more lt)
        (cases_lt i (length above + 1));
    known_is = h.known_is;
    inside_is = h.inside_is;
    open_is = h.open_is;
    found = subst (FoundFrom (length above) ls) (sym (found_kept (known_after names ls) (length above + 1) st said.steps ∙ ap (λ b. cond b (Some (length above + 1)) (line_of (find (λ step. lacks (known_after names ls) step.what) said.steps))) lack))
        (found_more above rest line e (is_lacking ls line) refl (line_of (find (λ step. lacks (known_after names ls) step.what) said.steps)) h.found);
  }

  pub lines_from : (above rest : List (List ℕ)) (open_at : Option ℕ) → above ++ rest ≡ ls → IsNames (names_after names above) → IsNames (begun_after above) → is_some open_at ≡ is_inside above → OpenIs above open_at → LinesAre names (length above) ls (lines_meaning (known_after names above) open_at (length above + 1) rest)
  unfolding lines_meaning
  lines_from above [] open_at e sound begun inside open_is =
      let same : above ≡ ls = sym (append-nil above) ∙ e in
      record {
        fine = λ i low lt. absurd (omega (arith, low, lt, ap (λ l. length l) same));
        known_is = ap (known_after names) same;
        inside_is = inside ∙ ap is_inside same;
        open_is = subst (λ l. OpenIs l open_at) same open_is;
        found = λ i low lt. absurd (omega (arith, low, lt, ap (λ l. length l) same));
      }
  lines_from above (line ∷ rest) open_at e sound begun inside open_is =
      step (λ o names_kept begun_kept inside_kept open_kept. lines_from (above ++ line ∷ []) rest o (append_assoc above (line ∷ []) rest ∙ e) names_kept begun_kept inside_kept open_kept)
      (line_meaning (known_after names above) (is_some open_at) line) refl
      (subst (λ i. LineIs names above line (line_meaning (known_after names above) i line)) (sym inside) (line_is names above line sound))
    where
      step : ((o : Option ℕ) → IsNames (names_after names (above ++ line ∷ [])) → IsNames (begun_after (above ++ line ∷ [])) → is_some o ≡ is_inside (above ++ line ∷ []) → OpenIs (above ++ line ∷ []) o
          → LinesAre names (length (above ++ line ∷ [])) ls (lines_meaning (known_after names (above ++ line ∷ [])) o (length (above ++ line ∷ []) + 1) rest))
          → (r : Result (Statement × Known) ScriptKind) → line_meaning (known_after names above) (is_some open_at) line ≡ r → LineIs names above line r → LinesAre names (length above) ls
          (at_line (length above + 1) r >>= (λ got. lines_meaning got.1 (opened got.0 (length above + 1) open_at) (length above + 1 + 1) rest >>= (λ others. Ok (said_before (length above + 1) got.0 others))))
      step go (Err k) read h = record {
        at = length above;
        number = refl;
        low = omega arith;
        there = place_there ls above rest line e;
        has = at_place names ls above rest line e ∙ h;
        first = λ i low lt. absurd (omega (arith, low, lt));
      }
      step go (Ok x) read h =
          let was : LineRead (known_after names above) x.1 x.0 = line_is_read (known_after names above) x.1 (is_some open_at) line x.0 sound begun read in
          let grown : Grows x.1.names (names_after names ls) =
          subst (λ k. Grows k.names (names_after names ls)) (sym h.next_is)
          (subst (λ l. Grows (names_after names (above ++ line ∷ [])) (names_after names l)) (append_assoc above (line ∷ []) rest ∙ e) (names_grow names (above ++ line ∷ []) rest)) in
          let more : LinesAre names (length (above ++ line ∷ [])) ls (lines_meaning (known_after names (above ++ line ∷ [])) (opened x.0 (length above + 1) open_at) (length (above ++ line ∷ []) + 1) rest) =
          go (opened x.0 (length above + 1) open_at)
          (subst (λ k. IsNames k.names) h.next_is was.names_kept) (subst (λ k. IsNames k.begun) h.next_is was.begun_kept)
          (some_opened x.0 (length above + 1) open_at (is_inside above) (first_of (words_of line)) h.shows inside ∙ sym (inside_push above line))
          (now_open above line x.0 open_at h.shows open_is) in
          earlier above rest line x.0 e h.fine (lacks_is (known_after names ls) x.1.names x.0 (first_of (words_of line)) (further (words_of line)) grown h.acts) (lines_meaning x.1 (opened x.0 (length above + 1) open_at) (length above + 1 + 1) rest)
          (subst (λ k. LinesAre names (length above + 1) ls (lines_meaning k (opened x.0 (length above + 1) open_at) (length above + 1 + 1) rest)) (sym h.next_is)
          (subst (λ n. LinesAre names n ls (lines_meaning (known_after names (above ++ line ∷ [])) (opened x.0 (length above + 1) open_at) (n + 1) rest)) (length_push above line) more))
