-- What the lines of a text that was read hold.
use Rattle.std.proofs.Common.{◌≡◌, ℕ, ◌≤◌, ◌==◌, Bool, true, false, not, cond, List, [], ◌∷◌, ◌++◌, length, slice_get, Option, Some, None, Result, Ok, Err, codes, refl, sym, ap, subst, ◌∙◌, length-append, arith}
use Rattle.std.specs.List.{list_all}
use Rattle.std.specs.Str.{bytes_eq}
use Rattle.desk_names.specs.Name.{is_name}
use Rattle.desk_names.specs.Names.{has_text, IsNames}
use Rattle.desk_names.proofs.NameLaws.{new_goes_last}
use Rattle.session_commands.specs.declared.table.Verb.{Verb}
use Rattle.session_commands.specs.declared.field.Field.{Field}
use Rattle.session_commands.specs.declared.script_kind.ScriptKind.{ScriptKind}
use Rattle.session_commands.specs.declared.script_kind.ScriptKind.TheVariants as fault
use Rattle.session_commands.specs.declared.command.Command.{Command}
use Rattle.session_lang.specs.declared.statement.Statement.{Statement}
use Rattle.session_lang.specs.declared.statement.Statement.TheVariants.{Blank, Begin, End, Run}
use Rattle.script_words.specs.Given.{◌>>=◌, Grows}
use Rattle.script_words.specs.Line.{is_good, words_of}
use Rattle.session_commands.specs.Table.{row_of, verb_of, words_in}
use Rattle.script_words.specs.Word.{fault_of, numbered, field_of}
use Rattle.session_commands.specs.Parts.{command_of, the_command, together, parts_of}
use Rattle.session_commands.specs.Sorts.{IsOf}
use Rattle.session_lang.specs.Statement.{Known, word, or_fault, words_fault, run, fields_meaning, unless_fault, command_meaning, begin_meaning, end_meaning, words_meaning, line_meaning}
use Rattle.session_commands.specs.Whole.{FieldsFit, IsCommand}
use Rattle.script_words.proofs.Interning.{grows_same, grows_on}
use Rattle.script_words.proofs.Sorts.{field_sorted}
use Rattle.session_commands.proofs.RowMakes.{row_makes}
use Rattle.session_lang.proofs.RowLinks.{row_parts, fits_more}
use Rattle.script_words.proofs.ReadFields.{bind_ok, went_on, went_in, okay, ok_is, numbered_is, field_read}

-- names that grew are no fewer
pub grows_length : (a b : List (List ℕ)) → Grows a b → length a ≤ length b
grows_length a b g = omega (arith, simp length-append at (ap length g.whole))

-- what a statement adds
abbrev pub Says : Known → Known → Statement → Type 0
Says known next Blank = next.begun ≡ known.begun
Says known next End = next.begun ≡ known.begun
Says known next (Begin name) = (text : List ℕ) × (slice_get next.names name ≡ Some text) × (next.begun ≡ known.begun ++ text ∷ [])
Says known next (Run c) = (next.begun ≡ known.begun) × IsCommand (length next.names) (length next.names) c

-- a line that was read
pub record LineRead (known next : Known) (st : Statement) : Type 0 where
  pub names_kept : IsNames next.names
  pub begun_kept : IsNames next.begun
  pub grows : Grows known.names next.names
  pub says : Says known next st

first_none : (a b : Option ScriptKind) → or_fault a b ≡ None → (a ≡ None) × (b ≡ None)
first_none None b h = (refl, h)
first_none (Some f) b h = absurd (cc)

run_is : (known : Known) (names : List (List ℕ)) (o : Option Command) (c : Command) (st : Statement) (next : Known) → o ≡ Some c → run known names (the_command o) ≡ okay (st, next) → (Run c ≡ st) × (record { names = names; begun = known.begun } ≡ next)
run_is known names o c st next made h =
    let kept : Known = record { names = names; begun = known.begun } in
    let said : Statement = Run c in
    let same : (said, kept) ≡ (st, next) = ok_is (said, kept) (st, next) (ap (λ p. run known names (the_command p)) (sym made) ∙ h) in
    (ap (λ z. z.0) same, ap (λ z. z.1) same)

made_fits : (m : ℕ) (v : Verb) (a b c : Field) (cmd : Command) → IsOf (row_of v).first a → IsOf (row_of v).second b → IsOf (row_of v).third c → command_of (together v a b c) ≡ Some cmd → FieldsFit m m (row_of v) (together v a b c) → IsCommand m m cmd
unfolding IsCommand
made_fits m v a b c cmd ha hb hc made fit =
    let row = row_parts v a b c ha hb hc in
    let same : row.0 ≡ cmd = let e : Some row.0 ≡ Some cmd = sym row.1 ∙ made in cc in
    let parts : together v a b c ≡ parts_of cmd = sym row.2 ∙ ap parts_of same in
    subst (λ p. FieldsFit m m (row_of p.verb) p) parts fit

fields_read : (known next : Known) (v : Verb) (words : List (List ℕ)) (st : Statement) → IsNames known.names → IsNames known.begun → words_fault (row_of v) words ≡ None → fields_meaning known v words ≡ Ok (st, next) → LineRead known next st
unfolding fields_meaning
fields_read known next v words st sound begun good h =
    let r = row_of v in
    let good1 = first_none (fault_of r.first (word words 0)) (or_fault (fault_of r.second (word words 1)) (fault_of r.third (word words 2))) good in
    let good2 = first_none (fault_of r.second (word words 1)) (fault_of r.third (word words 2)) good1.1 in
    let a = bind_ok (field_of known.names r.first (word words 0)) (λ a. field_of a.1 r.second (word words 1) >>= (λ b. field_of b.1 r.third (word words 2) >>= (λ c. run known c.1 (the_command (command_of (together v a.0 b.0 c.0)))))) (st, next) h in
    let b = bind_ok (field_of a.0.1 r.second (word words 1)) (λ b. field_of b.1 r.third (word words 2) >>= (λ c. run known c.1 (the_command (command_of (together v a.0.0 b.0 c.0))))) (st, next) a.2 in
    let c = bind_ok (field_of b.0.1 r.third (word words 2)) (λ c. run known c.1 (the_command (command_of (together v a.0.0 b.0.0 c.0)))) (st, next) b.2 in
    let one = field_read known.names r.first (word words 0) a.0.0 a.0.1 sound good1.0 a.1 in
    let two = field_read a.0.1 r.second (word words 1) b.0.0 b.0.1 one.kept good2.0 b.1 in
    let three = field_read b.0.1 r.third (word words 2) c.0.0 c.0.1 two.kept good2.1 c.1 in
    let ha = field_sorted known.names r.first (word words 0) a.0.0 a.0.1 good1.0 a.1 in
    let hb = field_sorted a.0.1 r.second (word words 1) b.0.0 b.0.1 good2.0 b.1 in
    let hc = field_sorted b.0.1 r.third (word words 2) c.0.0 c.0.1 good2.1 c.1 in
    let made = row_makes v a.0.0 b.0.0 c.0.0 ha hb hc in
    let ran = run_is known c.0.1 (command_of (together v a.0.0 b.0.0 c.0.0)) made.0 st next made.1 c.2 in
    let second = grows_length b.0.1 c.0.1 three.grows in
    let first : length a.0.1 ≤ length c.0.1 = omega (arith, second, grows_length a.0.1 b.0.1 two.grows) in
    let fit : FieldsFit (length c.0.1) (length c.0.1) (row_of v) (together v a.0.0 b.0.0 c.0.0) = record {
      first = fits_more (length a.0.1) (length c.0.1) first r.first a.0.0 one.fits;
      second = fits_more (length b.0.1) (length c.0.1) second r.second b.0.0 two.fits;
      third = three.fits;
    } in
    let command : IsCommand (length c.0.1) (length c.0.1) made.0 = made_fits (length c.0.1) v a.0.0 b.0.0 c.0.0 made.0 ha hb hc made.1 fit in
    let kept : Known = record { names = c.0.1; begun = known.begun } in
    let line : LineRead known kept (Run made.0) = record {
      names_kept = three.kept;
      begun_kept = begun;
      grows = grows_on known.names b.0.1 c.0.1 (grows_on known.names a.0.1 b.0.1 one.grows two.grows) three.grows;
      says = (refl, command);
    } in
    subst (λ s. LineRead known next s) ran.0 (subst (λ k. LineRead known k (Run made.0)) ran.1 line)

unless_is : (o : Option ScriptKind) (r : Result (Statement × Known) ScriptKind) (y : Statement × Known) → unless_fault o r ≡ Ok y → (o ≡ None) × (r ≡ Ok y)
unless_is None r y h = (refl, h)
unless_is (Some f) r y h = absurd (cc)

command_read : (known next : Known) (o : Option Verb) (words : List (List ℕ)) (st : Statement) → IsNames known.names → IsNames known.begun → command_meaning known o words ≡ Ok (st, next) → LineRead known next st
unfolding command_meaning
command_read known next None words st sound begun h = absurd (cc)
command_read known next (Some v) words st sound begun h =
    let counted = went_in (length words == words_in (row_of v)) fault.Count (unless_fault (words_fault (row_of v) words) (fields_meaning known v words)) (st, next) h in
    let good = unless_is (words_fault (row_of v) words) (fields_meaning known v words) (st, next) counted.1 in
    fields_read known next v words st sound begun good.0 good.1

abbrev reads : Statement → Known → Result (Statement × Known) ScriptKind
reads st known = Ok (st, known)

same_read : (known next : Known) (said st : Statement) → IsNames known.names → IsNames known.begun → Says known known said → reads said known ≡ reads st next → LineRead known next st
same_read known next said st sound begun says h =
    let same : (said, known) ≡ (st, next) = ok_is (said, known) (st, next) h in
    let line : LineRead known known said = record { names_kept = sound; begun_kept = begun; grows = grows_same known.names; says = says } in
    subst (λ z. LineRead known z.1 z.0) same line

end_read : (known next : Known) (inside : Bool) (words : List (List ℕ)) (st : Statement) → IsNames known.names → IsNames known.begun → end_meaning known inside words ≡ Ok (st, next) → LineRead known next st
end_read known next inside words st sound begun h =
    let counted = went_on (not (length words == 0)) fault.Count (cond inside (reads End known) (Err fault.End)) (st, next) h in
    let opened = went_in inside fault.End (reads End known) (st, next) counted.1 in
    same_read known next End st sound begun refl opened.1

begun_with : ℕ × List (List ℕ) → ℕ × List (List ℕ) → Result (Statement × Known) ScriptKind
begun_with n a = Ok (Begin n.0, record { names = n.1; begun = a.1 })

begin_read : (known next : Known) (inside : Bool) (words : List (List ℕ)) (st : Statement) → IsNames known.names → IsNames known.begun → begin_meaning known inside words ≡ Ok (st, next) → LineRead known next st
unfolding begin_meaning begun_with
begin_read known next inside words st sound begun h =
    let w = word words 0 in
    let last : Result (Statement × Known) ScriptKind = numbered known.begun (word words 0) >>= (λ a. numbered known.names (word words 0) >>= (λ n. begun_with n a)) in
    let c1 = went_on (not (length words == 1)) fault.Count (cond inside (Err fault.Nested) (cond (not (is_name w)) (Err fault.Name) (cond (has_text known.begun w) (Err fault.Twice) last))) (st, next) h in
    let c2 = went_on inside fault.Nested (cond (not (is_name w)) (Err fault.Name) (cond (has_text known.begun w) (Err fault.Twice) last)) (st, next) c1.1 in
    let c3 = went_on (not (is_name w)) fault.Name (cond (has_text known.begun w) (Err fault.Twice) last) (st, next) c2.1 in
    let c4 = went_on (has_text known.begun w) fault.Twice last (st, next) c3.1 in
    let a = bind_ok (numbered known.begun w) (λ a. numbered known.names w >>= (λ n. begun_with n a)) (st, next) c4.1 in
    let n = bind_ok (numbered known.names w) (λ n. begun_with n a.0) (st, next) a.2 in
    let named = numbered_is known.names w n.0.0 n.0.1 sound n.1 in
    let acted = numbered_is known.begun w a.0.0 a.0.1 begun a.1 in
    let kept : Known = record { names = n.0.1; begun = a.0.1 } in
    let said : Statement = Begin n.0.0 in
    let line : LineRead known kept said = record { names_kept = named.kept; begun_kept = acted.kept; grows = named.grows; says = (w, named.at, acted.whole ∙ new_goes_last known.begun w c4.0) } in
    let same : (said, kept) ≡ (st, next) = ok_is (said, kept) (st, next) n.2 in
    subst (λ z. LineRead known z.1 z.0) same line

words_read : (known next : Known) (inside : Bool) (words : List (List ℕ)) (st : Statement) → IsNames known.names → IsNames known.begun → words_meaning known inside words ≡ Ok (st, next) → LineRead known next st
unfolding words_meaning
words_read known next inside [] st sound begun h = same_read known next Blank st sound begun refl h
words_read known next inside (first ∷ words) st sound begun h = by (bytes_eq first (codes "action")) (bytes_eq first (codes "end")) h
  where
    by : (a e : Bool) → cond a (begin_meaning known inside words) (cond e (end_meaning known inside words) (command_meaning known (verb_of first) words)) ≡ Ok (st, next) → LineRead known next st
    by true e h = begin_read known next inside words st sound begun h
    by false true h = end_read known next inside words st sound begun h
    by false false h = command_read known next (verb_of first) words st sound begun h

-- a line without a fault
pub line_is_read : (known next : Known) (inside : Bool) (line : List ℕ) (st : Statement) → IsNames known.names → IsNames known.begun → line_meaning known inside line ≡ Ok (st, next) → LineRead known next st
unfolding line_meaning
line_is_read known next inside line st sound begun h =
    words_read known next inside (words_of line) st sound begun (went_in (list_all is_good line) fault.Byte (words_meaning known inside (words_of line)) (st, next) h).1
