-- The printed line of a command is read back.
use Rattle.std.proofs.Common.{◌≡◌, ℕ, ◌+◌, ◌<◌, ◌==◌, Bool, true, cond, List, [], ◌∷◌, ◌++◌, length, Some, None, Ok, Err, codes, refl, ap, ◌∙◌, append_assoc, All}
use Rattle.std.specs.List.{list_all}
use Rattle.std.specs.Str.{bytes_eq}
use Rattle.std.proofs.lemmas.Bool.{eq-eqb}
use Rattle.std.proofs.lemmas.List.{append-nil}
use Rattle.std.proofs.lemmas.List.Elements.{All-nil, All-cons}
use Rattle.desk_names.specs.Names.{IsNames}
use Rattle.session_commands.specs.declared.table.Verb.{Verb}
use Rattle.session_commands.specs.declared.table.Kind.{Kind}
use Rattle.session_commands.specs.declared.table.Kind.TheVariants as kind
use Rattle.session_commands.specs.declared.field.Field.{Field}
use Rattle.session_commands.specs.declared.script_kind.ScriptKind.TheVariants as fault
use Rattle.session_commands.specs.declared.command.Command.{Command}
use Rattle.session_lang.specs.declared.statement.Statement.TheVariants.{Run}
use Rattle.session_commands.specs.declared.parts.Parts.{Parts}
use Rattle.script_words.specs.Line.{is_good, words_of}
use Rattle.session_commands.specs.Table.{Row, row_of, verb_of, words_at, words_in}
use Rattle.session_commands.specs.Parts.{command_of, together, parts_of}
use Rattle.session_commands.specs.Sorts.{IsOf, Sorted}
use Rattle.session_lang.specs.Statement.{Known, word, words_fault, fields_meaning, unless_fault, command_meaning, begin_meaning, end_meaning, words_meaning, line_meaning}
use Rattle.script_words.specs.WordText.{field_text, word_text}
use Rattle.session_lang.specs.Printing.{row_text}
use Rattle.session_commands.specs.Whole.{FieldsFit, IsCommand}
use Rattle.script_words.proofs.WordBytes.{IsWord}
use Rattle.script_words.proofs.PrintedLines.{is_printable, spaced, words_read, words_printable, printable_line}
use Rattle.script_words.proofs.Fields.{as_read, Back, nothing_back, field_back}
use Rattle.session_commands.proofs.TableLaws.{word_found}
use Rattle.session_lang.proofs.RowFacts.{Count, none, one, two, three, Stands, row_is, parts_sorted, command_as_read, read_parts_made}

there : (names : List (List ℕ)) (an : List ℕ) (k : Kind) (f : Field) → words_at k ≡ 1 → word_text names an k f ≡ 32 ∷ field_text names an k f
unfolding word_text
there names an k f h = ap (λ n. cond (n == 0) [] (32 ∷ field_text names an k f)) h

absent : (names : List (List ℕ)) (an : List ℕ) (k : Kind) (f : Field) → k ≡ kind.Nothing → word_text names an k f ≡ []
unfolding word_text
absent names an k f h = ap (λ j. cond (words_at j == 0) [] (32 ∷ field_text names an k f)) h

none_in : (a b c : Kind) → a ≡ kind.Nothing → b ≡ kind.Nothing → c ≡ kind.Nothing → 0 ≡ words_at a + words_at b + words_at c
none_in a b c ha hb hc = rw (ha, hb, hc) refl

one_in : (a b c : Kind) → words_at a ≡ 1 → b ≡ kind.Nothing → c ≡ kind.Nothing → 1 ≡ words_at a + words_at b + words_at c
one_in a b c ha hb hc = rw (ha, hb, hc) refl

two_in : (a b c : Kind) → words_at a ≡ 1 → words_at b ≡ 1 → c ≡ kind.Nothing → 2 ≡ words_at a + words_at b + words_at c
two_in a b c ha hb hc = rw (ha, hb, hc) refl

three_in : (a b c : Kind) → words_at a ≡ 1 → words_at b ≡ 1 → words_at c ≡ 1 → 3 ≡ words_at a + words_at b + words_at c
three_in a b c ha hb hc = rw (ha, hb, hc) refl

one_text : (w a : List ℕ) → (w ++ 32 ∷ a ++ [] ++ []) ≡ w ++ 32 ∷ (a ++ [])
one_text w a = simp append-nil

two_text : (w a b : List ℕ) → (w ++ 32 ∷ a ++ 32 ∷ b ++ []) ≡ w ++ 32 ∷ (a ++ 32 ∷ (b ++ []))
two_text w a b = simp (append-nil, append_assoc)

three_text : (w a b c : List ℕ) → (w ++ 32 ∷ a ++ 32 ∷ b ++ 32 ∷ c) ≡ w ++ 32 ∷ (a ++ 32 ∷ (b ++ 32 ∷ (c ++ [])))
three_text w a b c = simp (append-nil, append_assoc)

-- the words of a row with these fields
pub record Words (names : List (List ℕ)) (an : List ℕ) (r : Row) (p : Parts) : Type 0 where
  pub words : List (List ℕ)
  pub text : row_text names an r p ≡ r.word ++ spaced words
  pub count : length words ≡ words_in r
  pub are : All IsWord words
  pub first : Back names an r.first p.first (word words 0)
  pub second : Back names an r.second p.second (word words 1)
  pub third : Back names an r.third p.third (word words 2)

module _ (names : List (List ℕ)) (an : List ℕ) (sound : IsNames names) (known : All (λ name. name < length names) an) where
  empty_back : (k : Kind) (f : Field) (w : List ℕ) → k ≡ kind.Nothing → IsOf k f → Back names an k f w
  empty_back kind.Nothing f w e of = rw of (nothing_back names an w)
  empty_back kind.Name f w e of = absurd (cc)
  empty_back kind.Value f w e of = absurd (cc)
  empty_back kind.Number f w e of = absurd (cc)
  empty_back kind.Rate f w e of = absurd (cc)
  empty_back kind.Day f w e of = absurd (cc)
  empty_back kind.Weight f w e of = absurd (cc)
  empty_back kind.Engine f w e of = absurd (cc)
  empty_back kind.Target f w e of = absurd (cc)
  empty_back kind.Switch f w e of = absurd (cc)
  empty_back kind.Action f w e of = absurd (cc)

  words_by : (r : Row) (p : Parts) (n : Count) → Stands n r → Sorted r p → FieldsFit (length names) (length an) r p → Words names an r p
  words_by r p none s of fit = record {
    words = [];
    text = rw (absent names an r.first p.first s.0, absent names an r.second p.second s.1, absent names an r.third p.third s.2) (append-nil (r.word ++ [] ++ []) ∙ append-nil (r.word ++ []));
    count = none_in r.first r.second r.third s.0 s.1 s.2;
    are = All-nil IsWord;
    first = empty_back r.first p.first [] s.0 of.first;
    second = empty_back r.second p.second [] s.1 of.second;
    third = empty_back r.third p.third [] s.2 of.third;
  }
  words_by r p one s of fit =
      let a = field_back names an sound known r.first p.first s.0 of.first fit.first in
      record {
        words = field_text names an r.first p.first ∷ [];
        text = rw (there names an r.first p.first s.0, absent names an r.second p.second s.1, absent names an r.third p.third s.2) (one_text r.word (field_text names an r.first p.first));
        count = one_in r.first r.second r.third s.0 s.1 s.2;
        are = All-cons IsWord (field_text names an r.first p.first) [] a.word (All-nil IsWord);
        first = a.back;
        second = empty_back r.second p.second [] s.1 of.second;
        third = empty_back r.third p.third [] s.2 of.third;
      }
  words_by r p two s of fit =
      let a = field_back names an sound known r.first p.first s.0 of.first fit.first in
      let b = field_back names an sound known r.second p.second s.1 of.second fit.second in
      record {
        words = field_text names an r.first p.first ∷ field_text names an r.second p.second ∷ [];
        text = rw (there names an r.first p.first s.0, there names an r.second p.second s.1, absent names an r.third p.third s.2) (two_text r.word (field_text names an r.first p.first) (field_text names an r.second p.second));
        count = two_in r.first r.second r.third s.0 s.1 s.2;
        are = All-cons IsWord (field_text names an r.first p.first) (field_text names an r.second p.second ∷ []) a.word (All-cons IsWord (field_text names an r.second p.second) [] b.word (All-nil IsWord));
        first = a.back;
        second = b.back;
        third = empty_back r.third p.third [] s.2 of.third;
      }
  words_by r p three s of fit =
      let a = field_back names an sound known r.first p.first s.0 of.first fit.first in
      let b = field_back names an sound known r.second p.second s.1 of.second fit.second in
      let c = field_back names an sound known r.third p.third s.2 of.third fit.third in
      record {
        words = field_text names an r.first p.first ∷ field_text names an r.second p.second ∷ field_text names an r.third p.third ∷ [];
        text = rw (there names an r.first p.first s.0, there names an r.second p.second s.1, there names an r.third p.third s.2) (three_text r.word (field_text names an r.first p.first) (field_text names an r.second p.second) (field_text names an r.third p.third));
        count = three_in r.first r.second r.third s.0 s.1 s.2;
        are = All-cons IsWord (field_text names an r.first p.first) (field_text names an r.second p.second ∷ field_text names an r.third p.third ∷ []) a.word (All-cons IsWord (field_text names an r.second p.second) (field_text names an r.third p.third ∷ []) b.word (All-cons IsWord (field_text names an r.third p.third) [] c.word (All-nil IsWord)));
        first = a.back;
        second = b.back;
        third = c.back;
      }

-- words are those of a row with these fields, over names that stay as they are
pub record Said (names : List (List ℕ)) (an : List ℕ) (r : Row) (p : Parts) (words : List (List ℕ)) : Type 0 where
  pub count : length words ≡ words_in r
  pub first : Back names an r.first p.first (word words 0)
  pub second : Back names an r.second p.second (word words 1)
  pub third : Back names an r.third p.third (word words 2)

run_read : (names begun : List (List ℕ)) (an : List ℕ) (v : Verb) (p : Parts) (c : Command) (words : List (List ℕ)) → Said names an (row_of v) p words → command_of (together v (as_read names an p.first) (as_read names an p.second) (as_read names an p.third)) ≡ Some c → fields_meaning (record { names = names; begun = begun }) v words ≡ Ok (Run c, record { names = names; begun = begun })
unfolding fields_meaning
run_read names begun an v p c words s made = rw (s.first.read, s.second.read, s.third.read, made) refl

no_fault : (names : List (List ℕ)) (an : List ℕ) (r : Row) (p : Parts) (words : List (List ℕ)) → Said names an r p words → words_fault r words ≡ None
no_fault names an r p words s = rw (s.first.good, s.second.good, s.third.good) refl

-- they are read as the command of the row and the fields
pub command_read : (names begun : List (List ℕ)) (an : List ℕ) (v : Verb) (p : Parts) (c : Command) (words : List (List ℕ)) → Said names an (row_of v) p words → command_of (together v (as_read names an p.first) (as_read names an p.second) (as_read names an p.third)) ≡ Some c → command_meaning (record { names = names; begun = begun }) (Some v) words ≡ Ok (Run c, record { names = names; begun = begun })
unfolding command_meaning
command_read names begun an v p c words s made =
    let known : Known = record { names = names; begun = begun } in
    ap (λ b. cond b (unless_fault (words_fault (row_of v) words) (fields_meaning known v words)) (Err fault.Count)) (eq-eqb (length words) (words_in (row_of v)) s.count)
    ∙ ap (λ o. unless_fault o (fields_meaning known v words)) (no_fault names an (row_of v) p words s)
    ∙ run_read names begun an v p c words s made

-- a line that begins with a command's word says what that command's words say
pub row_said : (known : Known) (inside : Bool) (v : Verb) (words : List (List ℕ)) → words_meaning known inside ((row_of v).word ∷ words) ≡ command_meaning known (Some v) words
unfolding words_meaning
row_said known inside v words =
    let is = row_is v in
    ap (λ b. cond b (begin_meaning known inside words) (cond (bytes_eq (row_of v).word (codes "end")) (end_meaning known inside words) (command_meaning known (verb_of (row_of v).word) words))) is.no_action
    ∙ ap (λ b. cond b (end_meaning known inside words) (command_meaning known (verb_of (row_of v).word) words)) is.no_end
    ∙ ap (λ o. command_meaning known o words) (word_found v)

words_of_row : (names begun : List (List ℕ)) (an : List ℕ) (v : Verb) (p : Parts) (c : Command) (inside : Bool) (w : Words names an (row_of v) p) → command_of (together v (as_read names an p.first) (as_read names an p.second) (as_read names an p.third)) ≡ Some c → words_meaning (record { names = names; begun = begun }) inside ((row_of v).word ∷ w.words) ≡ Ok (Run c, record { names = names; begun = begun })
words_of_row names begun an v p c inside w made =
    row_said (record { names = names; begun = begun }) inside v w.words
    ∙ command_read names begun an v p c w.words (record { count = w.count; first = w.first; second = w.second; third = w.third }) made

-- what a line without fault says
line_said : (known : Known) (inside : Bool) (line : List ℕ) → list_all is_good line ≡ true → line_meaning known inside line ≡ words_meaning known inside (words_of line)
unfolding line_meaning
line_said known inside line h = ap (λ b. cond b (words_meaning known inside (words_of line)) (Err fault.Byte)) h

-- the printed words are read as a line
pub words_line : (known : Known) (inside : Bool) (w : List ℕ) (ws : List (List ℕ)) → IsWord w → All IsWord ws → line_meaning known inside (w ++ spaced ws) ≡ words_meaning known inside (w ∷ ws)
words_line known inside w ws h all =
    line_said known inside (w ++ spaced ws) (printable_line (w ++ spaced ws) (words_printable w ws h all))
    ∙ ap (words_meaning known inside) (words_read w ws h all)

-- the printed line of a command
pub record LineBack (names begun : List (List ℕ)) (an : List ℕ) (c : Command) (line : List ℕ) : Type 0 where
  pub printable : list_all is_printable line ≡ true
  pub read : (inside : Bool) → line_meaning (record { names = names; begun = begun }) inside line ≡ Ok (Run (command_as_read names an c), record { names = names; begun = begun })

pub command_back : (names begun : List (List ℕ)) (an : List ℕ) → IsNames names → All (λ name. name < length names) an → (c : Command) → IsCommand (length names) (length an) c → LineBack names begun an c (row_text names an (row_of (parts_of c).verb) (parts_of c))
unfolding IsCommand
command_back names begun an sound known c fit =
    let v = (parts_of c).verb in
    let is = row_is v in
    let w = words_by names an sound known (row_of v) (parts_of c) is.count is.stands (parts_sorted c) fit in
    record {
      printable = ap (list_all is_printable) w.text ∙ words_printable (row_of v).word w.words is.word w.are;
      read = λ inside. ap (line_meaning (record { names = names; begun = begun }) inside) w.text
          ∙ words_line (record { names = names; begun = begun }) inside (row_of v).word w.words is.word w.are
          ∙ words_of_row names begun an v (parts_of c) (command_as_read names an c) inside w (read_parts_made names an c);
    }
