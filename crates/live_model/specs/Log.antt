-- A log of lines is a script.
use Rattle.std.specs.Prelude.{◌≡◌, ℕ, ◌≤◌, ℤ, Bool, true, false, List, [], ◌∷◌, ◌++◌, codes, length, map, All, Result, Ok, Err}
use Rattle.std.specs.Str.Lines.{lines}
use Rattle.desk_names.specs.Names.{has_text, IsNames}
use Rattle.desk_terms.specs.declared.terms.Terms.{Terms}
use Rattle.session_commands.specs.declared.command.Command.{Command}
use Rattle.session_commands.specs.declared.script.Script.{Script}
use Rattle.session_commands.specs.declared.script_kind.ScriptKind.{ScriptKind}
use Rattle.session_commands.specs.Whole.{name_text}
use Rattle.session_lang.specs.declared.statement.Statement.{Statement}
use Rattle.session_lang.specs.Statement.{Known, line_meaning}
use Rattle.session_lang.specs.Reading.{lacks, inside_after, script_meaning}
use Rattle.session_model.specs.Standing.{start_with}
use Rattle.session_model.specs.Course.{Running, Meaning, running, round_of}
use Rattle.session_model.specs.Rounds.{transcript, calls_of}
use Rattle.session_model.specs.Wider.{AreNamed}
use Rattle.live_model.specs.declared.limits.TheConstants.{MOST_LINE}
use Rattle.live_model.specs.Live.{Live, live_from, spoken, conversation}

-- what a session is after the rounds of commands
unfoldable pub done : {P : Type 0} → Meaning P → Running P → List Command → Running P
done m r [] = r
done m r (command ∷ commands) = done m (round_of m r command).next commands

-- the session that a script opens over a market: these names, and the script's actions
abbrev pub scripted : {P : Type 0} → P → ℤ → List (ℕ × Terms) → Script × List (List ℕ) → Running P
scripted picker today made read = running picker (start_with today read.1 made read.0.actions)

-- the live session behind the commands of a script
abbrev pub live_behind : {P : Type 0} → Meaning P → P → ℤ → List (ℕ × Terms) → Script × List (List ℕ) → Live P
live_behind m picker today made read =
    live_from (done m (scripted picker today made read) read.0.commands) (map (name_text read.1) read.0.action_names)

-- P holds of what a line says, where it has no fault
abbrev pub OfMeaning : (Statement × Known → Type 0) → Result (Statement × Known) ScriptKind → Type 0
OfMeaning P (Ok read) = P read
OfMeaning P (Err kind) = Unit {0}

-- EACH ACTION BEGINS before the first line that names it
abbrev pub AreBegunFirst : Known → Bool → List (List ℕ) → Type 0
AreBegunFirst known inside [] = Unit {0}
AreBegunFirst known inside (line ∷ lines) =
    OfMeaning (λ read. (lacks read.1 read.0 ≡ false) × AreBegunFirst read.1 (inside_after read.0 inside) lines)
    (line_meaning known inside line)

abbrev pub AreShort : List (List ℕ) → Type 0
AreShort lines = All (λ line. length line ≤ MOST_LINE) lines

-- what a script of both texts writes and computes is what the first script does, and then the lines of the second text
pub record IsReplayed {P : Type 0} (m : Meaning P) (picker : P) (today : ℤ) (made : List (ℕ × Terms))
    (first whole : Script × List (List ℕ)) (input : List (List ℕ)) : Type 0 where
  pub lines : transcript m (scripted picker today made first) first.0.commands
      ++ conversation m false (live_behind m picker today made first) input
      ≡ transcript m (scripted picker today made whole) whole.0.commands
  pub calls : calls_of m (scripted picker today made first) first.0.commands
      ++ (spoken m false (live_behind m picker today made first) input).calls
      ≡ calls_of m (scripted picker today made whole) whole.0.commands

-- A LOG IS A SCRIPT: where a text, and this text with the input behind it, are scripts over a market's names, `today`
-- among them, the lines of both are those of the one and then of the other, none of the input is too long, and each
-- action begins before the first line of the input that names it
abbrev pub LogsAreScripts : {P : Type 0} → Meaning P → Type 0
LogsAreScripts {P} m = (picker : P) (today : ℤ) (names : List (List ℕ)) (made : List (ℕ × Terms)) (text input : List ℕ)
    (first whole : Script × List (List ℕ))
    → IsNames names
    → has_text names (codes "today") ≡ true
    → AreNamed (length names) made
    → script_meaning names text ≡ Ok first
    → script_meaning names (text ++ input) ≡ Ok whole
    → lines (text ++ input) ≡ lines text ++ lines input
    → AreShort (lines input)
    → AreBegunFirst (record { names = first.1; begun = map (name_text first.1) first.0.action_names }) false (lines input)
    → IsReplayed m picker today made first whole (lines input)
