-- The names of lines, added from the front.
use Rattle.std.proofs.Common.{◌≡◌, ℕ, Bool, false, List, [], ◌∷◌, ◌++◌, Ok, refl, sym, ap, subst, ◌∙◌, append_assoc}
use Rattle.std.specs.List.{list_all}
use Rattle.std.specs.Str.Lines.{lines}
use Rattle.std.proofs.lemmas.List.Concat.{flat_map-append}
use Rattle.desk_names.specs.Names.{IsNames}
use Rattle.session_commands.specs.declared.script_kind.ScriptKind.TheVariants as fault
use Rattle.session_commands.specs.declared.command.Command.{Command}
use Rattle.script_words.specs.Line.{is_good, words_of}
use Rattle.script_words.proofs.ReadFields.{went_in}
use Rattle.session_lang.specs.declared.statement.Statement.{Statement}
use Rattle.session_lang.specs.declared.statement.Statement.TheVariants.{Run}
use Rattle.session_lang.specs.Statement.{Known, words_meaning, line_meaning}
use Rattle.session_lang.specs.Reading.{IsSaidFirst}
use Rattle.session_lang.specs.FirstFault.{first_of, further, names_in, with_texts, names_said, names_after, AddsFront}
use Rattle.session_lang.proofs.ReadLines.{LineRead, line_is_read}
use Rattle.session_lang.proofs.FaultWords.{WordsAre, words_are}
use Rattle.session_lang.proofs.FaultLines.{with_texts-append, names_push}

-- a line that is read adds all its names
pub line_adds : (known next : Known) (inside : Bool) (line : List ℕ) (st : Statement) → IsNames known.names
    → line_meaning known inside line ≡ Ok (st, next) → next.names ≡ with_texts known.names (names_in (words_of line))
unfolding line_meaning
line_adds known next inside line st sound read =
    let said = (went_in (list_all is_good line) fault.Byte (words_meaning known inside (words_of line)) (st, next) read).1 in
    let are : WordsAre known.names known.begun inside (first_of (words_of line)) (further (words_of line)) (Ok (st, next)) =
    subst (WordsAre known.names known.begun inside (first_of (words_of line)) (further (words_of line))) said
    (words_are known.names known.begun inside (words_of line) sound) in
    are.names_are

-- what stands after a line that was read
abbrev pub Read : List (List ℕ) → List ℕ → List (List ℕ) → List (List ℕ) → Type 0
Read names line new begun = (new ≡ with_texts names (names_in (words_of line))) × IsNames new × IsNames begun

pub line_read : (known next : Known) (inside : Bool) (line : List ℕ) (st : Statement) → IsNames known.names → IsNames known.begun
    → line_meaning known inside line ≡ Ok (st, next) → Read known.names line next.names next.begun
line_read known next inside line st sound begun read =
    let was : LineRead known next st = line_is_read known next inside line st sound begun read in
    (line_adds known next inside line st sound read, was.names_kept, was.begun_kept)

-- the names of the lines before the rest were added
pub record Taken (names ls new begun rest : List (List ℕ)) : Type 0 where
  pub above : List (List ℕ)
  pub whole : ls ≡ above ++ rest
  pub is : new ≡ names_after names above
  pub names_kept : IsNames new
  pub begun_kept : IsNames begun

pub none_taken : (names ls begun : List (List ℕ)) → IsNames names → IsNames begun → Taken names ls names begun ls
none_taken names ls begun sound kept = record { above = []; whole = refl; is = refl; names_kept = sound; begun_kept = kept }

module _ (names ls new begun : List (List ℕ)) where
  -- nothing more was added
  pub taken_here : (rest : List (List ℕ)) → Taken names ls new begun rest → AddsFront names (names_said ls) new
  taken_here rest t = record {
    front = names_said t.above;
    rest = names_said rest;
    whole = ap names_said t.whole ∙ flat_map-append (λ line. names_in (words_of line)) t.above rest;
    is = t.is;
  }

  module _ (line : List ℕ) (rest : List (List ℕ)) (t : Taken names ls new begun (line ∷ rest)) where
    -- one line more
    pub taken_more : (next begun_next : List (List ℕ)) → Read new line next begun_next → Taken names ls next begun_next rest
    taken_more next begun_next r = record {
      above = t.above ++ line ∷ [];
      whole = t.whole ∙ sym (append_assoc t.above (line ∷ []) rest);
      is = r.0 ∙ ap (λ n. with_texts n (names_in (words_of line))) t.is ∙ sym (names_push names t.above line);
      names_kept = r.1;
      begun_kept = r.2;
    }

    -- a front of the names of the next line was added
    pub taken_some : (next : List (List ℕ)) → AddsFront new (names_in (words_of line)) next → AddsFront names (names_said ls) next
    taken_some next a = record {
      front = names_said t.above ++ a.front;
      rest = a.rest ++ names_said rest;
      whole = ap names_said t.whole ∙ flat_map-append (λ l. names_in (words_of l)) t.above (line ∷ rest)
          ∙ ap (λ more. names_said t.above ++ (more ++ names_said rest)) a.whole
          ∙ ap (λ more. names_said t.above ++ more) (append_assoc a.front a.rest (names_said rest))
          ∙ sym (append_assoc (names_said t.above) a.front (a.rest ++ names_said rest));
      is = a.is ∙ ap (λ n. with_texts n a.front) t.is ∙ sym (with_texts-append names (names_said t.above) a.front);
    }

-- a line that is read at once adds none
pub taken_first : (names ls new begun text : _) (command : Command) (after : List ℕ) → IsSaidFirst new text command (10 ∷ after)
    → Taken names ls new begun (lines text) → Taken names ls new begun (lines after)
taken_first names ls new begun text command after first t =
    taken_more names ls new begun first.line (lines after)
    (subst (Taken names ls new begun) (ap lines first.whole ∙ first.alone after) t) new begun
    (line_read (record { names = new; begun = begun }) (record { names = new; begun = begun }) false first.line (Run command)
    t.names_kept t.begun_kept (first.says begun false))
