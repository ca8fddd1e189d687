-- The first fault of a script, said of its lines and of what stands above them, without the reader.
use Rattle.std.specs.Prelude.{◌≡◌, ℕ, ◌+◌, ◌-◌, ◌<◌, ◌≤◌, Bool, true, false, not, ◌&&◌, ◌||◌, ◌==◌, nat_lt, if◌then◌else◌, List, [], ◌∷◌, ◌++◌, length, map, filter, take, codes, slice_index_or, Option, Some, None, Result, Ok, Err}
use Rattle.std.specs.List.{list_all, list_any, flat_map}
use Rattle.std.specs.Str.{bytes_eq}
use Rattle.std.specs.Str.Lines.{lines}
use Rattle.desk_names.specs.Names.{has_text, with_text, most_names}
use Rattle.session_commands.specs.declared.script_kind.ScriptKind.{ScriptKind}
use Rattle.session_commands.specs.declared.script_kind.ScriptKind.TheVariants as fault
use Rattle.session_commands.specs.declared.table.Kind.{Kind}
use Rattle.session_commands.specs.declared.table.Kind.TheVariants as kind
use Rattle.session_commands.specs.declared.table.Verb.{Verb}
use Rattle.session_commands.specs.Table.{row_of, verb_of, words_in}
use Rattle.session_commands.specs.declared.script.Script.{Script}
use Rattle.session_lang.specs.declared.fault.ScriptFault.{ScriptFault}
use Rattle.session_lang.specs.declared.fault.ScriptFault.TheVariants as script
use Rattle.script_words.specs.Line.{is_good, words_of}
use Rattle.script_words.specs.Word.{fault_of, names_one}
use Rattle.session_lang.specs.Statement.{word, or_fault}
use Rattle.session_lang.specs.Reading.{most_bytes}

-- what a line is by its first word
pub data First : Type 0 where
  blank : First
  begin : First
  end : First
  command : Verb → First
  unknown : First

abbrev pub by_verb : Option Verb → First
by_verb (Some v) = command v
by_verb None = unknown

-- what the words of a line make it
abbrev pub first_of : List (List ℕ) → First
first_of [] = blank
first_of (first ∷ words) =
    if bytes_eq first (codes "action") then begin else (if bytes_eq first (codes "end") then end else by_verb (verb_of first))

-- the words behind the first
abbrev pub further : List (List ℕ) → List (List ℕ)
further [] = []
further (first ∷ words) = words

-- what is asked for at each place behind the first word
abbrev pub places : First → List Kind
places blank = []
places begin = kind.Name ∷ []
places end = []
places (command v) = (row_of v).first ∷ (row_of v).second ∷ (row_of v).third ∷ []
places unknown = []

-- how many words are asked for behind the first
abbrev pub words_wanted : First → ℕ
words_wanted blank = 0
words_wanted begin = 1
words_wanted end = 0
words_wanted (command v) = words_in (row_of v)
words_wanted unknown = 0

abbrev pub is_unknown : First → Bool
is_unknown blank = false
is_unknown begin = false
is_unknown end = false
is_unknown (command v) = false
is_unknown unknown = true

abbrev pub is_begin : First → Bool
is_begin blank = false
is_begin begin = true
is_begin end = false
is_begin (command v) = false
is_begin unknown = false

abbrev pub is_end : First → Bool
is_end blank = false
is_end begin = false
is_end end = true
is_end (command v) = false
is_end unknown = false

-- the fault of the leftmost word that has one, by what is asked for from this place on
abbrev pub word_fault : List Kind → ℕ → List (List ℕ) → Option ScriptKind
word_fault [] at words = None
word_fault (k ∷ ks) at words = or_fault (fault_of k (word words at)) (word_fault ks (at + 1) words)

-- the words that stand where a name is asked for
abbrev pub names_at : List Kind → ℕ → List (List ℕ) → List (List ℕ)
names_at [] at words = []
names_at (k ∷ ks) at words =
    if names_one k (word words at) then word words at ∷ names_at ks (at + 1) words else names_at ks (at + 1) words

-- the names that a line's words name, in order
abbrev pub names_in : List (List ℕ) → List (List ℕ)
names_in words = names_at (places (first_of words)) 0 (further words)

-- the name of the action that a line begins
abbrev pub begun_in : List (List ℕ) → List (List ℕ)
begun_in words = if is_begin (first_of words) then word (further words) 0 ∷ [] else []

-- the names with these texts, each new one behind the others
abbrev pub with_texts : List (List ℕ) → List (List ℕ) → List (List ℕ)
with_texts names [] = names
with_texts names (text ∷ texts) = with_texts (with_text names text) texts

-- a front of these texts was added to the names (this project's profile)
pub record AddsFront (names texts new : List (List ℕ)) : Type 0 where
  pub front : List (List ℕ)
  pub rest : List (List ℕ)
  pub whole : texts ≡ front ++ rest
  pub is : new ≡ with_texts names front

-- the names that these lines name, in order
abbrev pub names_said : List (List ℕ) → List (List ℕ)
names_said above = flat_map (λ line. names_in (words_of line)) above

-- the names after these lines: theirs in order of first use
abbrev pub names_after : List (List ℕ) → List (List ℕ) → List (List ℕ)
names_after names above = with_texts names (names_said above)

-- the actions that these lines begin
abbrev pub begun_after : List (List ℕ) → List (List ℕ)
begun_after above = flat_map (λ line. begun_in (words_of line)) above

-- the line begins a block, or ends one
abbrev pub is_mark : First → Bool
is_mark f = is_begin f || is_end f

-- the last of these
abbrev pub last_of : List Bool → Bool
last_of marks = slice_index_or marks (length marks - 1) false

-- behind these lines a block stands open: the last of them that begins or ends one begins one
abbrev pub is_inside : List (List ℕ) → Bool
is_inside above = last_of (map is_begin (filter is_mark (map (λ line. first_of (words_of line)) above)))

-- the fault, where it holds
abbrev pub where_so : Bool → ScriptKind → Option ScriptKind
where_so holds k = if holds then Some k else None

-- the first that is a fault
abbrev pub first_some : List (Option ScriptKind) → Option ScriptKind
first_some [] = None
first_some (one ∷ more) = or_fault one (first_some more)

-- the faults of a line's words in the order in which they are told, over the names, the actions begun and whether a
-- block stands open. `Name`, `Number`, `Date` and `Choice` come word by word; `Twice` is of a line that begins a block,
-- whose one word can else have `Name` alone.
abbrev pub words_faults : List (List ℕ) → List (List ℕ) → Bool → First → List (List ℕ) → List (Option ScriptKind)
words_faults names begun inside f words =
    where_so (is_unknown f) fault.Word
    ∷ where_so (not (length words == words_wanted f)) fault.Count
    ∷ where_so (is_begin f && inside) fault.Nested
    ∷ where_so (is_end f && not inside) fault.End
    ∷ word_fault (places f) 0 words
    ∷ where_so (is_begin f && has_text begun (word words 0)) fault.Twice
    ∷ where_so (nat_lt most_names (length (with_texts names (names_at (places f) 0 words)))
    || is_begin f && nat_lt most_names (length begun + 1)) fault.Names
    ∷ []

-- the first fault of a line with these lines above it (this project's profile)
abbrev pub line_fault : List (List ℕ) → List (List ℕ) → List ℕ → Option ScriptKind
line_fault names above line =
    or_fault (where_so (not (list_all is_good line)) fault.Byte)
    (first_some (words_faults (names_after names above) (begun_after above) (is_inside above) (first_of (words_of line)) (further (words_of line))))

-- the first fault of the line at a place, counted from 0
abbrev pub fault_at : List (List ℕ) → List (List ℕ) → ℕ → Option ScriptKind
fault_at names ls at = line_fault names (take at ls) (slice_index_or ls at [])

-- no line has a fault
abbrev pub AreFaultless : List (List ℕ) → List (List ℕ) → Type 0
AreFaultless names ls = (at : ℕ) → at < length ls → fault_at names ls at ≡ None

-- line n, counted from 1, is the first with a fault, and this is its first
pub record IsFirstFaulty (names ls : List (List ℕ)) (n : ℕ) (k : ScriptKind) : Type 0 where
  pub at : ℕ
  pub number : n ≡ at + 1
  pub there : at < length ls
  pub has : fault_at names ls at ≡ Some k
  pub first : (earlier : ℕ) → earlier < at → fault_at names ls earlier ≡ None

-- what the line at a place is by its first word
abbrev pub line_at : List (List ℕ) → ℕ → First
line_at ls at = first_of (words_of (slice_index_or ls at []))

-- line n begins a block, and no line behind it begins or ends one
pub record IsLastBegun (ls : List (List ℕ)) (n : ℕ) : Type 0 where
  pub at : ℕ
  pub number : n ≡ at + 1
  pub there : at < length ls
  pub begins : is_begin (line_at ls at) ≡ true
  pub last : (later : ℕ) → at < later → later < length ls → is_mark (line_at ls later) ≡ false

-- the words that stand where an action is asked for
abbrev pub actions_at : List Kind → ℕ → List (List ℕ) → List (List ℕ)
actions_at [] at words = []
actions_at (kind.Action ∷ ks) at words = word words at ∷ actions_at ks (at + 1) words
actions_at (kind.Nothing ∷ ks) at words = actions_at ks (at + 1) words
actions_at (kind.Name ∷ ks) at words = actions_at ks (at + 1) words
actions_at (kind.Value ∷ ks) at words = actions_at ks (at + 1) words
actions_at (kind.Number ∷ ks) at words = actions_at ks (at + 1) words
actions_at (kind.Rate ∷ ks) at words = actions_at ks (at + 1) words
actions_at (kind.Day ∷ ks) at words = actions_at ks (at + 1) words
actions_at (kind.Weight ∷ ks) at words = actions_at ks (at + 1) words
actions_at (kind.Engine ∷ ks) at words = actions_at ks (at + 1) words
actions_at (kind.Target ∷ ks) at words = actions_at ks (at + 1) words
actions_at (kind.Switch ∷ ks) at words = actions_at ks (at + 1) words

-- the line names an action that no line begins
abbrev pub is_lacking : List (List ℕ) → List ℕ → Bool
is_lacking ls line =
    list_any (λ action. not (has_text (begun_after ls) action)) (actions_at (places (first_of (words_of line))) 0 (further (words_of line)))

-- line n is the first that names an action that no line begins
pub record IsFirstLacking (ls : List (List ℕ)) (n : ℕ) : Type 0 where
  pub at : ℕ
  pub number : n ≡ at + 1
  pub there : at < length ls
  pub has : is_lacking ls (slice_index_or ls at []) ≡ true
  pub first : (earlier : ℕ) → earlier < at → is_lacking ls (slice_index_or ls earlier []) ≡ false

-- the first fault of a text and its line: the text is too long; or it is the first faulty line's; or no line has a fault
-- and a block stands open at the end, with the line that begins it; or none does, and a line names an action that no
-- line begins, with the first such (this project's profile)
pub data IsFirstFault (names : List (List ℕ)) (text : List ℕ) (n : ℕ) (k : ScriptKind) : Type 0 where
  too_long : most_bytes < length text → n ≡ 0 → k ≡ fault.TooLong → IsFirstFault names text n k
  in_line : length text ≤ most_bytes → IsFirstFaulty names (lines text) n k → IsFirstFault names text n k
  unclosed : length text ≤ most_bytes → AreFaultless names (lines text) → is_inside (lines text) ≡ true
      → IsLastBegun (lines text) n → k ≡ fault.Unclosed → IsFirstFault names text n k
  no_action : length text ≤ most_bytes → AreFaultless names (lines text) → is_inside (lines text) ≡ false
      → IsFirstLacking (lines text) n → k ≡ fault.NoAction → IsFirstFault names text n k

-- a fault that is answered is the first of the text
abbrev pub ToldFirst : List (List ℕ) → List ℕ → Result Script ScriptFault → Type 0
ToldFirst names text (Ok script) = Unit {0}
ToldFirst names text (Err script.NoMemory) = Unit {0}
ToldFirst names text (Err (script.At line k)) = IsFirstFault names text line k

-- the names behind a fault in line n: a line with a fault adds none, so they are those after the lines above it; a text
-- that is too long adds none, and where no line has a fault each has added its own (this project's profile)
pub record KeepsNames (names : List (List ℕ)) (text : List ℕ) (n : ℕ) (k : ScriptKind) (new : List (List ℕ)) : Type 0 where
  pub too_long : most_bytes < length text → new ≡ names
  pub in_line : length text ≤ most_bytes → IsFirstFaulty names (lines text) n k → new ≡ names_after names (take (n - 1) (lines text))
  pub whole : length text ≤ most_bytes → AreFaultless names (lines text) → new ≡ names_after names (lines text)

-- the names behind a fault that is answered
abbrev pub FaultKeeps : List (List ℕ) → List ℕ → List (List ℕ) → Result Script ScriptFault → Type 0
FaultKeeps names text new (Ok script) = Unit {0}
FaultKeeps names text new (Err script.NoMemory) = Unit {0}
FaultKeeps names text new (Err (script.At line k)) = KeepsNames names text line k new
