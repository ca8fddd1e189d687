-- What a line says of blocks, and what it says in a live session.
use Rattle.std.proofs.Common.{◌≡◌, ℕ, ◌≤◌, ◌==◌, Bool, true, false, not, cond, List, [], ◌∷◌, ◌++◌, length, Option, Some, None, is_some, Result, Ok, Err, codes, refl, sym, ap, ◌∙◌, get_or}
use Rattle.std.specs.List.{list_all}
use Rattle.std.specs.Str.{bytes_eq}
use Rattle.std.proofs.lemmas.Bool.{le-ltb}
use Rattle.std.proofs.lemmas.List.{get_or_append_left}
use Rattle.desk_names.specs.Names.{has_text, place_of}
use Rattle.desk_names.proofs.NameLaws.{position_or_len-longer}
use Rattle.session_commands.specs.declared.table.Verb.{Verb}
use Rattle.session_commands.specs.declared.script_kind.ScriptKind.{ScriptKind}
use Rattle.session_commands.specs.declared.script_kind.ScriptKind.TheVariants as fault
use Rattle.session_commands.specs.declared.command.Command.{Command}
use Rattle.session_commands.specs.declared.command.Command.TheVariants as command
use Rattle.session_commands.specs.Table.{row_of, verb_of, words_in}
use Rattle.session_commands.specs.Parts.{command_of, the_command, together, parts_of}
use Rattle.session_commands.specs.Whole.{IsCommand}
use Rattle.script_words.specs.Given.{◌>>=◌}
use Rattle.script_words.specs.Line.{is_good, words_of}
use Rattle.script_words.specs.Word.{field_of}
use Rattle.script_words.proofs.ReadFields.{bind_ok, went_on, went_in, ok_is}
use Rattle.session_lang.specs.declared.statement.Statement.{Statement}
use Rattle.session_lang.specs.declared.statement.Statement.TheVariants.{Blank, Begin, End, Run}
use Rattle.session_lang.specs.Statement.{Known, word, words_fault, run, fields_meaning, unless_fault, command_meaning, begin_meaning, end_meaning, words_meaning, line_meaning}
use Rattle.session_lang.specs.Reading.{text_of, lacks, linked}
use Rattle.live_model.specs.declared.limits.TheConstants.{MOST_LINE}
use Rattle.live_model.specs.Live.{Live, known_of, meaning, unless_lacking, answered, counted, knowing, stated, said}
use Rattle.session_model.specs.Course.{Meaning}

abbrev begins : Statement → Bool
begins (Begin name) = true
begins Blank = false
begins End = false
begins (Run c) = false

abbrev reads : Statement → Known → Result (Statement × Known) ScriptKind
reads st known = Ok (st, known)

same_begins : (told st : Statement) (known next : Known) → reads told known ≡ reads st next → begins st ≡ begins told
same_begins told st known next h =
    let same : (told, known) ≡ (st, next) = ok_is (told, known) (st, next) h in
    sym (ap (λ (z : Statement × Known). begins z.0) same)

faultless : (o : Option ScriptKind) (r : Result (Statement × Known) ScriptKind) (y : Statement × Known) → unless_fault o r ≡ Ok y → r ≡ Ok y
faultless None r y h = h
faultless (Some f) r y h = absurd (cc)

-- a line of a command begins no block
command_begins : (known next : Known) (o : Option Verb) (words : List (List ℕ)) (st : Statement) → command_meaning known o words ≡ Ok (st, next) → begins st ≡ false
unfolding command_meaning fields_meaning
command_begins known next None words st h = absurd (cc)
command_begins known next (Some v) words st h =
    let r = row_of v in
    let all = faultless (words_fault r words) (fields_meaning known v words) (st, next)
    (went_in (length words == words_in r) fault.Count (unless_fault (words_fault r words) (fields_meaning known v words)) (st, next) h).1 in
    let a = bind_ok (field_of known.names r.first (word words 0)) (λ a. field_of a.1 r.second (word words 1) >>= (λ b. field_of b.1 r.third (word words 2) >>= (λ c. run known c.1 (the_command (command_of (together v a.0 b.0 c.0)))))) (st, next) all in
    let b = bind_ok (field_of a.0.1 r.second (word words 1)) (λ b. field_of b.1 r.third (word words 2) >>= (λ c. run known c.1 (the_command (command_of (together v a.0.0 b.0 c.0))))) (st, next) a.2 in
    let c = bind_ok (field_of b.0.1 r.third (word words 2)) (λ c. run known c.1 (the_command (command_of (together v a.0.0 b.0.0 c.0)))) (st, next) b.2 in
    same_begins (Run (the_command (command_of (together v a.0.0 b.0.0 c.0.0)))) st (record { names = c.0.1; begun = known.begun }) next c.2

end_begins : (known next : Known) (inside : Bool) (words : List (List ℕ)) (st : Statement) → end_meaning known inside words ≡ Ok (st, next) → begins st ≡ false
end_begins known next inside words st h =
    let counted = went_on (not (length words == 0)) fault.Count (cond inside (reads End known) (Err fault.End)) (st, next) h in
    same_begins End st known next (went_in inside fault.End (reads End known) (st, next) counted.1).1

begin_outside : (known next : Known) (inside : Bool) (words : List (List ℕ)) (st : Statement) → begin_meaning known inside words ≡ Ok (st, next) → inside ≡ false
unfolding begin_meaning
begin_outside known next inside words st h = (went_on inside fault.Nested _ (st, next) (went_on (not (length words == 1)) fault.Count _ (st, next) h).1).0

words_begin : (known next : Known) (inside : Bool) (words : List (List ℕ)) (st : Statement) → words_meaning known inside words ≡ Ok (st, next) → begins st ≡ true → inside ≡ false
unfolding words_meaning
words_begin known next inside [] st h is = absurd (let none = same_begins Blank st known next h in cc)
words_begin known next inside (first ∷ words) st h is = by (bytes_eq first (codes "action")) (bytes_eq first (codes "end")) h
  where
    by : (a e : Bool) → cond a (begin_meaning known inside words) (cond e (end_meaning known inside words) (command_meaning known (verb_of first) words)) ≡ Ok (st, next) → inside ≡ false
    by true e h = begin_outside known next inside words st h
    by false true h = absurd (let none = end_begins known next inside words st h in cc)
    by false false h = absurd (let none = command_begins known next (verb_of first) words st h in cc)

-- A BLOCK BEGINS outside of any
pub line_begins : (known next : Known) (inside : Bool) (line : List ℕ) (name : ℕ) → line_meaning known inside line ≡ Ok (Begin name, next) → inside ≡ false
unfolding line_meaning
line_begins known next inside line name h =
    words_begin known next inside (words_of line) (Begin name) (went_in (list_all is_good line) fault.Byte (words_meaning known inside (words_of line)) (Begin name, next) h).1 refl

-- a line that is not too long, and names no action that is not begun, says what a line of a script says
pub meaning_is : (known next : Known) (inside : Bool) (line : List ℕ) (st : Statement) → length line ≤ MOST_LINE → line_meaning known inside line ≡ Ok (st, next) → lacks next st ≡ false
    → meaning known inside line ≡ Ok (st, next)
unfolding meaning
meaning_is known next inside line st short read has =
    ap (λ (b : Bool). cond b (Err fault.TooLong) (line_meaning known inside line >>= unless_lacking)) (le-ltb MOST_LINE (length line) short)
    ∙ ap (λ (r : Result (Statement × Known) ScriptKind). r >>= unless_lacking) read
    ∙ ap (λ (b : Bool). cond b (Err fault.NoAction) (reads st next)) has

pub said_is : {P : Type 0} → (m : Meaning P) (s : Live P) (line : List ℕ) (st : Statement) (next : Known) → meaning (known_of s) (is_some s.block) line ≡ Ok (st, next)
    → said m s line ≡ stated m next st (knowing next (counted s))
unfolding said
said_is m s line st next is = ap (answered m (counted s)) is

-- A LINK does not depend on names and actions that come later
not_lacking : (b : Bool) → cond b false true ≡ false → b ≡ true
not_lacking true h = refl
not_lacking false h = absurd (cc)

place_longer : (names more : List (List ℕ)) (text : List ℕ) → has_text names text ≡ true → place_of (names ++ more) text ≡ place_of names text
unfolding has_text place_of
place_longer names more text has = position_or_len-longer (bytes_eq text) names more has

pub linked_on : (one two : Known) (names begun : List (List ℕ)) → two.names ≡ one.names ++ names → two.begun ≡ one.begun ++ begun → (c : Command)
    → IsCommand (length one.names) (length one.names) c → lacks one (Run c) ≡ false → linked two c ≡ linked one c
unfolding IsCommand row_of parts_of
linked_on one two names begun more acts (command.Watch w action) fit there =
    ap (λ (x : ℕ). command.Watch w x)
    (ap (λ (t : List ℕ). place_of two.begun t) (ap (λ (l : List (List ℕ)). get_or l action []) more ∙ get_or_append_left one.names names [] action fit.second)
    ∙ ap (λ (l : List (List ℕ)). place_of l (text_of one action)) acts
    ∙ place_longer one.begun begun (text_of one action) (not_lacking (has_text one.begun (text_of one action)) there))
linked_on one two names begun more acts c fit there = refl
