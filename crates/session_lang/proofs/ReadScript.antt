-- A script that was read is whole.
use Rattle.std.proofs.Common.{◌≡◌, ℕ, ◌+◌, ◌<◌, Bool, true, false, cond, List, [], ◌∷◌, ◌++◌, length, map, nat_lt, slice_get, Option, Some, None, is_some, Result, Ok, Err, refl, sym, ap, subst, ◌∙◌, append_assoc, arith, All, get_or}
use Rattle.std.specs.List.{find}
use Rattle.std.specs.Str.Lines.{lines}
use Rattle.std.proofs.lemmas.List.{append-nil, get_or_append_left, length-map}
use Rattle.std.proofs.lemmas.List.Elements.{All-nil, All-cons, All-head, All-tail}
use Rattle.std.proofs.lemmas.Option.{slice_get_within, get_or_from_slice_get}
use Rattle.desk_names.specs.Name.{IsName}
use Rattle.desk_names.specs.Names.{IsNames}
use Rattle.session_commands.specs.declared.script_kind.ScriptKind.{ScriptKind}
use Rattle.session_commands.specs.declared.script_kind.ScriptKind.TheVariants as fault
use Rattle.session_commands.specs.declared.command.Command.{Command}
use Rattle.session_lang.specs.declared.statement.Statement.{Statement}
use Rattle.session_lang.specs.declared.statement.Statement.TheVariants.{Blank, Begin, End, Run}
use Rattle.session_lang.specs.declared.steps.Step.{Step}
use Rattle.session_commands.specs.declared.script.Script.{Script}
use Rattle.script_words.specs.Given.{◌>>=◌, Grows}
use Rattle.session_lang.specs.Given.{GivesAt}
use Rattle.session_lang.specs.declared.fault.ScriptFault.{ScriptFault}
use Rattle.std.specs.Prelude.{IfOk}
use Rattle.session_lang.specs.Statement.{Known, line_meaning}
use Rattle.session_lang.specs.Reading.{Said, said_before, opened, at_line, lines_meaning, lacks, linked, line_of, block_with, block_of, action_with, actions_of, action_names_of, inside_after, command_with, commands_of, script_of, unless_lacking, together_of, most_bytes, script_meaning}
use Rattle.session_commands.specs.Whole.{name_text}
use Rattle.session_commands.specs.Whole.{IsCommand, IsScript}
use Rattle.session_lang.proofs.Blocks.{one_name_each}
use Rattle.script_words.proofs.Interning.{grows_same, grows_on}
use Rattle.session_lang.proofs.RowLinks.{command_more, linked_fits}
use Rattle.script_words.proofs.ReadFields.{bind_ok, went_on}
use Rattle.session_lang.proofs.ReadLines.{LineRead, line_is_read, grows_length}

abbrev StepFits : ℕ → Statement → Type 0
StepFits m (Run c) = IsCommand m m c
StepFits m Blank = Unit {0}
StepFits m (Begin name) = Unit {0}
StepFits m End = Unit {0}

abbrev Fit : ℕ → Step → Type 0
Fit m step = StepFits m step.what

-- lines that were read
record LinesRead (known : Known) (said : Said) : Type 0 where
  names_kept : IsNames said.known.names
  begun_kept : IsNames said.known.begun
  grows : Grows known.names said.known.names
  begun : said.known.begun ≡ known.begun ++ map (name_text said.known.names) (action_names_of said.steps)
  range : All (λ n. n < length said.known.names) (action_names_of said.steps)
  fits : All (Fit (length said.known.names)) said.steps

text_stays : (a b : List (List ℕ)) (n : ℕ) (text : List ℕ) → Grows a b → slice_get a n ≡ Some text → name_text b n ≡ text
text_stays a b n text g h =
    ap (λ l. get_or l n []) g.whole ∙ get_or_append_left a g.more [] n (slice_get_within a n text h) ∙ get_or_from_slice_get a n text [] h

joined : (known next : Known) (number : ℕ) (said : Said) (st : Statement) → LineRead known next st → LinesRead next said → LinesRead known (said_before number st said)
unfolding action_names_of
joined known next number said Blank one more = record {
  names_kept = more.names_kept;
  begun_kept = more.begun_kept;
  grows = grows_on known.names next.names said.known.names one.grows more.grows;
  begun = more.begun ∙ ap (λ b. b ++ map (name_text said.known.names) (action_names_of said.steps)) one.says;
  range = more.range;
  fits = more.fits;
}
joined known next number said End one more = record {
  names_kept = more.names_kept;
  begun_kept = more.begun_kept;
  grows = grows_on known.names next.names said.known.names one.grows more.grows;
  begun = more.begun ∙ ap (λ b. b ++ map (name_text said.known.names) (action_names_of said.steps)) one.says;
  range = more.range;
  fits = All-cons (Fit (length said.known.names)) (record { line = number; what = End }) said.steps tt more.fits;
}
joined known next number said (Run c) one more = record {
  names_kept = more.names_kept;
  begun_kept = more.begun_kept;
  grows = grows_on known.names next.names said.known.names one.grows more.grows;
  begun = more.begun ∙ ap (λ b. b ++ map (name_text said.known.names) (action_names_of said.steps)) one.says.0;
  range = more.range;
  fits = All-cons (Fit (length said.known.names)) (record { line = number; what = Run c }) said.steps (command_more (length next.names) (length said.known.names) (grows_length next.names said.known.names more.grows) c one.says.1) more.fits;
}
joined known next number said (Begin name) one more =
    let stays : name_text said.known.names name ≡ one.says.0 = text_stays next.names said.known.names name one.says.0 more.grows one.says.1 in
    let le = grows_length next.names said.known.names more.grows in
    let lt = slice_get_within next.names name one.says.0 one.says.1 in
    record {
      names_kept = more.names_kept;
      begun_kept = more.begun_kept;
      grows = grows_on known.names next.names said.known.names one.grows more.grows;
      begun = more.begun ∙ ap (λ b. b ++ map (name_text said.known.names) (action_names_of said.steps)) one.says.2
          ∙ append_assoc known.begun (one.says.0 ∷ []) (map (name_text said.known.names) (action_names_of said.steps))
          ∙ ap (λ t. known.begun ++ t ∷ map (name_text said.known.names) (action_names_of said.steps)) (sym stays);
      range = All-cons (λ n. n < length said.known.names) name (action_names_of said.steps) (omega (arith, le, lt)) more.range;
      fits = All-cons (Fit (length said.known.names)) (record { line = number; what = Begin name }) said.steps tt more.fits;
    }

at_is : {A : Type 0} (number : ℕ) (r : Result A ScriptKind) (x : A) → at_line number r ≡ Ok x → r ≡ Ok x
at_is number (Ok y) x h = let same : y ≡ x = cc in ap (λ z. Ok z) same
at_is number (Err e) x h = absurd (cc)

abbrev told : Said → Result Said (ℕ × ScriptKind)
told said = Ok said

told_is : (a b : Said) → told a ≡ told b → a ≡ b
told_is a b h = cc

no_lines : (known : Known) → IsNames known.names → IsNames known.begun → (open_at : Option ℕ) → LinesRead known (record { steps = []; known = known; open_at = open_at })
unfolding action_names_of
no_lines known sound begun open_at = record { names_kept = sound; begun_kept = begun; grows = grows_same known.names; begun = sym (append-nil known.begun); range = All-nil (λ n. n < length known.names); fits = All-nil (Fit (length known.names)) }

lines_read : (known : Known) (open_at : Option ℕ) (number : ℕ) (all : List (List ℕ)) (said : Said) → IsNames known.names → IsNames known.begun → lines_meaning known open_at number all ≡ Ok said → LinesRead known said
unfolding lines_meaning
lines_read known open_at number [] said sound begun h =
    let none : Said = record { steps = []; known = known; open_at = open_at } in
    subst (LinesRead known) (told_is none said h) (no_lines known sound begun open_at)
lines_read known open_at number (line ∷ rest) said sound begun h =
    let s = bind_ok (at_line number (line_meaning known (is_some open_at) line)) (λ got. lines_meaning got.1 (opened got.0 number open_at) (number + 1) rest >>= (λ others. told (said_before number got.0 others))) said h in
    let o = bind_ok (lines_meaning s.0.1 (opened s.0.0 number open_at) (number + 1) rest) (λ others. told (said_before number s.0.0 others)) said s.2 in
    let one = line_is_read known s.0.1 (is_some open_at) line s.0.0 sound begun (at_is number (line_meaning known (is_some open_at) line) s.0 s.1) in
    let more = lines_read s.0.1 (opened s.0.0 number open_at) (number + 1) rest o.0 one.names_kept one.begun_kept o.1 in
    subst (LinesRead known) (told_is (said_before number s.0.0 o.0) said o.2) (joined known s.0.1 number o.0 s.0.0 one more)

not_found : (b : Bool) (step : Step) (rest : Option Step) → cond b (Some step) rest ≡ None → (b ≡ false) × (rest ≡ None)
not_found true step rest h = absurd (cc)
not_found false step rest h = (refl, h)

module _ (K : Known) (m : ℕ) where
  Whole : Command → Type 0
  Whole c = IsCommand m (length K.begun) c

  Found : List Step → Type 0
  Found steps = find (λ step. lacks K step.what) steps ≡ None

  command_in : (inside : Bool) (st : Statement) (more : List Command) → StepFits m st → lacks K st ≡ false → All Whole more → All Whole (command_with K inside st more)
  unfolding Whole
  command_in true st more fit there all = all
  command_in false (Run c) more fit there all = All-cons (IsCommand m (length K.begun)) (linked K c) more (linked_fits K m c fit there) all
  command_in false Blank more fit there all = all
  command_in false (Begin name) more fit there all = all
  command_in false End more fit there all = all

  block_in : (st : Statement) (more : List Command) → StepFits m st → lacks K st ≡ false → All Whole more → All Whole (block_with K st more)
  unfolding Whole
  block_in (Run c) more fit there all = All-cons (IsCommand m (length K.begun)) (linked K c) more (linked_fits K m c fit there) all
  block_in Blank more fit there all = all
  block_in (Begin name) more fit there all = all
  block_in End more fit there all = All-nil (IsCommand m (length K.begun))

  action_in : (st : Statement) (block : List Command) (more : List (List Command)) → All Whole block → All (λ b. All Whole b) more → All (λ b. All Whole b) (action_with st block more)
  action_in (Run c) block more fit all = all
  action_in Blank block more fit all = all
  action_in (Begin name) block more fit all = All-cons (λ b. All Whole b) block more fit all
  action_in End block more fit all = all

  commands_fit : (inside : Bool) (steps : List Step) → All (Fit m) steps → Found steps → All Whole (commands_of K inside steps)
  unfolding commands_of Found
  commands_fit inside [] fits h = All-nil Whole
  commands_fit inside (step ∷ steps) fits h =
      let none = not_found (lacks K step.what) step (find (λ s. lacks K s.what) steps) h in
      command_in inside step.what (commands_of K (inside_after step.what inside) steps) (All-head (Fit m) step steps fits) none.0 (commands_fit (inside_after step.what inside) steps (All-tail (Fit m) step steps fits) none.1)

  block_fit : (steps : List Step) → All (Fit m) steps → Found steps → All Whole (block_of K steps)
  unfolding block_of Found
  block_fit [] fits h = All-nil Whole
  block_fit (step ∷ steps) fits h =
      let none = not_found (lacks K step.what) step (find (λ s. lacks K s.what) steps) h in
      block_in step.what (block_of K steps) (All-head (Fit m) step steps fits) none.0 (block_fit steps (All-tail (Fit m) step steps fits) none.1)

  actions_fit : (steps : List Step) → All (Fit m) steps → Found steps → All (λ b. All Whole b) (actions_of K steps)
  unfolding actions_of Found
  actions_fit [] fits h = All-nil (λ b. All Whole b)
  actions_fit (step ∷ steps) fits h =
      let none = not_found (lacks K step.what) step (find (λ s. lacks K s.what) steps) h in
      action_in step.what (block_of K steps) (actions_of K steps) (block_fit steps (All-tail (Fit m) step steps fits) none.1) (actions_fit steps (All-tail (Fit m) step steps fits) none.1)

whole_script : (known : Known) (said : Said) → known.begun ≡ [] → LinesRead known said → find (λ step. lacks said.known step.what) said.steps ≡ None → IsScript said.known.names (script_of said.known said.steps)
unfolding Whole Found
whole_script known said none read found =
    let begun : said.known.begun ≡ map (name_text said.known.names) (action_names_of said.steps) = read.begun ∙ ap (λ b. b ++ map (name_text said.known.names) (action_names_of said.steps)) none in
    let count : length said.known.begun ≡ length (actions_of said.known said.steps) = ap (λ l. length l) begun ∙ length-map (action_names_of said.steps) (name_text said.known.names) ∙ sym (one_name_each said.known said.steps) in
    record {
      named = read.names_kept;
      paired = one_name_each said.known said.steps;
      action_names = subst IsNames begun read.begun_kept;
      known = read.range;
      actions = subst (λ j. All (λ b. All (IsCommand (length said.known.names) j) b) (actions_of said.known said.steps)) count (actions_fit said.known (length said.known.names) said.steps read.fits found);
      commands = subst (λ j. All (IsCommand (length said.known.names) j) (commands_of said.known false said.steps)) count (commands_fit said.known (length said.known.names) false said.steps read.fits found);
    }

abbrev answer : Script × List (List ℕ) → Result (Script × List (List ℕ)) (ℕ × ScriptKind)
answer x = Ok x

answer_is : (x y : Script × List (List ℕ)) → answer x ≡ answer y → x ≡ y
answer_is x y h = cc

lacking_is : (o : Option Step) (x y : Script × List (List ℕ)) → unless_lacking (line_of o) x ≡ answer y → (o ≡ None) × (x ≡ y)
lacking_is None x y h = (refl, answer_is x y h)
lacking_is (Some step) x y h = absurd (cc)

together_is : (K : Known) (steps : List Step) (open_at : Option ℕ) (y : Script × List (List ℕ)) → together_of K steps open_at ≡ answer y → (find (λ step. lacks K step.what) steps ≡ None) × ((script_of K steps, K.names) ≡ y)
together_is K steps (Some number) y h = absurd (cc)
together_is K steps None y h = lacking_is (find (λ step. lacks K step.what) steps) (script_of K steps, K.names) y h

no_names : IsNames []
no_names = record { distinct = λ i j d lt within. absurd (omega arith); named = All-nil IsName; room = omega arith }

-- a script that was read is whole, over the names after it
pub script_read : (names : List (List ℕ)) (text : List ℕ) (s : Script) (after : List (List ℕ)) → IsNames names → script_meaning names text ≡ Ok (s, after) → IsScript after s
unfolding script_meaning
script_read names text s after sound h =
    let start : Known = record { names = names; begun = [] } in
    let short = went_on (nat_lt most_bytes (length text)) (0, fault.TooLong) (lines_meaning start None 1 (lines text) >>= (λ said. together_of said.known said.steps said.open_at)) (s, after) h in
    let got = bind_ok (lines_meaning start None 1 (lines text)) (λ said. together_of said.known said.steps said.open_at) (s, after) short.1 in
    let read = lines_read start None 1 (lines text) got.0 sound no_names got.1 in
    let end = together_is got.0.known got.0.steps got.0.open_at (s, after) got.2 in
    subst (λ z. IsScript z.1 z.0) end.1 (whole_script start got.0 refl read end.0)

-- the same of an answer of the reader
pub whole_answer : (names after : List (List ℕ)) (text : List ℕ) (r : Result Script ScriptFault) → IsNames names → GivesAt (λ s. (s, after)) r (script_meaning names text) → IfOk r (λ s. IsScript after s)
whole_answer names after text (Ok s) sound h = script_read names text s after sound h
whole_answer names after text (Err e) sound h = tt
