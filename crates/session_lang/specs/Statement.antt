-- What one line of a script says, or its first fault.
use Rattle.std.specs.Prelude.{◌≡◌, ℕ, Bool, not, ◌==◌, if◌then◌else◌, List, [], ◌∷◌, length, codes, slice_index_or, Option, Some, None, Result, Ok, Err}
use Rattle.std.specs.List.{list_all}
use Rattle.std.specs.Str.{bytes_eq}
use Rattle.desk_names.specs.Name.{is_name}
use Rattle.desk_names.specs.Names.{has_text}
use Rattle.session_commands.specs.declared.script_kind.ScriptKind.{ScriptKind}
use Rattle.session_commands.specs.declared.script_kind.ScriptKind.TheVariants as fault
use Rattle.session_commands.specs.declared.table.Verb.{Verb}
use Rattle.session_commands.specs.declared.command.Command.{Command}
use Rattle.session_commands.specs.declared.parts.Parts.{Parts}
use Rattle.session_lang.specs.declared.statement.Statement.{Statement}
use Rattle.session_lang.specs.declared.statement.Statement.TheVariants.{Blank, Begin, End, Run}
use Rattle.script_words.specs.Given.{◌>>=◌}
use Rattle.script_words.specs.Line.{is_good, words_of}
use Rattle.session_commands.specs.Table.{Row, row_of, verb_of, words_in}
use Rattle.script_words.specs.Word.{fault_of, numbered, plain_field, with_name, field_of}
use Rattle.session_commands.specs.Parts.{command_of, the_command, together}

-- what the lines above a line leave to it: the session's names, and the names of the actions that were begun
pub record Known : Type 0 where
  pub names : List (List ℕ)
  pub begun : List (List ℕ)

-- the word at the place behind the first
abbrev pub word : List (List ℕ) → ℕ → List ℕ
word words at = slice_index_or words at []

-- the first of two faults
abbrev pub or_fault : Option ScriptKind → Option ScriptKind → Option ScriptKind
or_fault (Some f) other = Some f
or_fault None other = other

-- the first fault among the words behind the first, from the left
abbrev pub words_fault : Row → List (List ℕ) → Option ScriptKind
words_fault r words = or_fault (fault_of r.first (word words 0)) (or_fault (fault_of r.second (word words 1)) (fault_of r.third (word words 2)))

-- the words have no fault, and these parts are what they say apart from the names in them
pub record PlainOf (v : Verb) (words : List (List ℕ)) (p : Parts) : Type 0 where
  pub first_good : fault_of (row_of v).first (word words 0) ≡ None
  pub second_good : fault_of (row_of v).second (word words 1) ≡ None
  pub third_good : fault_of (row_of v).third (word words 2) ≡ None
  pub first : p.first ≡ plain_field (row_of v).first (word words 0)
  pub second : p.second ≡ plain_field (row_of v).second (word words 1)
  pub third : p.third ≡ plain_field (row_of v).third (word words 2)

-- what was returned for the words is what they say apart from the names in them, or the first fault among them
abbrev pub ArePlain : Verb → List (List ℕ) → Result Parts ScriptKind → Type 0
ArePlain v words (Ok p) = PlainOf v words p
ArePlain v words (Err f) = words_fault (row_of v) words ≡ Some f

-- the names with those in the words behind the first
abbrev pub names_with : Row → List (List ℕ) → List (List ℕ) → List (List ℕ)
names_with r words names =
    with_name r.third (word words 2) (with_name r.second (word words 1) (with_name r.first (word words 0) names))

-- a command as a statement
abbrev pub run : Known → List (List ℕ) → Command → Result (Statement × Known) ScriptKind
run known names command = Ok (Run command, record { names = names; begun = known.begun })

-- the command of a row, its names interned in order
unfoldable pub fields_meaning : Known → Verb → List (List ℕ) → Result (Statement × Known) ScriptKind
fields_meaning known v words =
    field_of known.names (row_of v).first (word words 0) >>= (λ a.
    field_of a.1 (row_of v).second (word words 1) >>= (λ b.
    field_of b.1 (row_of v).third (word words 2) >>= (λ c.
    run known c.1 (the_command (command_of (together v a.0 b.0 c.0))))))

-- the same where no word has a fault
abbrev pub unless_fault : Option ScriptKind → Result (Statement × Known) ScriptKind → Result (Statement × Known) ScriptKind
unless_fault (Some f) more = Err f
unless_fault None more = more

-- a line of a command, where its first word is one
unfoldable pub command_meaning : Known → Option Verb → List (List ℕ) → Result (Statement × Known) ScriptKind
command_meaning known None words = Err fault.Word
command_meaning known (Some v) words =
    if length words == words_in (row_of v)
    then unless_fault (words_fault (row_of v) words) (fields_meaning known v words)
    else Err fault.Count

-- `action A`: begins a block, outside of any
unfoldable pub begin_meaning : Known → Bool → List (List ℕ) → Result (Statement × Known) ScriptKind
begin_meaning known inside words =
    if not (length words == 1) then Err fault.Count
    else (if inside then Err fault.Nested
    else (if not (is_name (word words 0)) then Err fault.Name
    else (if has_text known.begun (word words 0) then Err fault.Twice
    else numbered known.begun (word words 0) >>= (λ a. numbered known.names (word words 0) >>= (λ n.
    Ok (Begin n.0, record { names = n.1; begun = a.1 }))))))

-- `end`: ends a block
abbrev pub end_meaning : Known → Bool → List (List ℕ) → Result (Statement × Known) ScriptKind
end_meaning known inside words =
    if not (length words == 0) then Err fault.Count
    else (if inside then Ok (End, known) else Err fault.End)

-- what a line's words say
unfoldable pub words_meaning : Known → Bool → List (List ℕ) → Result (Statement × Known) ScriptKind
words_meaning known inside [] = Ok (Blank, known)
words_meaning known inside (first ∷ words) =
    if bytes_eq first (codes "action") then begin_meaning known inside words
    else (if bytes_eq first (codes "end") then end_meaning known inside words
    else command_meaning known (verb_of first) words)

-- what a line says, inside a block or not (this project's profile)
unfoldable pub line_meaning : Known → Bool → List ℕ → Result (Statement × Known) ScriptKind
line_meaning known inside line =
    if list_all is_good line then words_meaning known inside (words_of line) else Err fault.Byte
