-- Reading lines one after another.
use Rattle.std.proofs.Common.{◌≡◌, ℕ, ◌+◌, Bool, List, [], ◌∷◌, ◌++◌, Option, is_some, Result, Ok, Err, refl, sym, ap, ◌∙◌, append_assoc}
use Rattle.std.proofs.lemmas.List.{append-nil}
use Rattle.session_commands.specs.declared.script_kind.ScriptKind.{ScriptKind}
use Rattle.session_commands.specs.declared.command.Command.{Command}
use Rattle.session_lang.specs.declared.statement.Statement.{Statement}
use Rattle.session_lang.specs.declared.steps.Step.{Step}
use Rattle.script_words.specs.declared.line_fault.LineFault.{LineFault}
use Rattle.script_words.specs.declared.line_fault.LineFault.TheVariants as fault
use Rattle.script_words.specs.Given.{◌>>=◌, Fails}
use Rattle.session_lang.specs.Given.{FailsAt, at_number}
use Rattle.session_lang.specs.Statement.{Known, line_meaning}
use Rattle.session_lang.specs.Reading.{Said, said_before, kept, opened, at_line, inside_after, lines_meaning}
use Rattle.session_lang.specs.Gathered.{later_with, later, outside_with, outside, Gathered, gathered_behind}
use Rattle.session_lang.proofs.Gathered.{later_kept, outside_kept, opened_inside}

told : List Step → List Command → Known → Option ℕ → Result Gathered (ℕ × ScriptKind)
told steps commands known open_at = Ok (record { steps = steps; commands = commands; known = known; open_at = open_at })

-- what is gathered with one more statement, and whether a block stands open behind it
later_more : (front : List Step) (commands : List Command) (inside : Bool) (number : ℕ) (st : Statement) (r : Result Said (ℕ × ScriptKind)) → gathered_behind front commands inside (r >>= (λ others. Ok (said_before number st others))) ≡ gathered_behind (front ++ later_with inside (record { line = number; what = st }) []) (commands ++ outside_with inside st []) (inside_after st inside) r
unfolding told
later_more front commands inside number st (Ok said) =
    ap (λ steps. told steps (commands ++ outside inside (kept number st said.steps)) said.known said.open_at)
    (ap (λ x. front ++ x) (later_kept inside number st said.steps) ∙ sym (append_assoc front (later_with inside (record { line = number; what = st }) []) (later (inside_after st inside) said.steps)))
    ∙ ap (λ x. told ((front ++ later_with inside (record { line = number; what = st }) []) ++ later (inside_after st inside) said.steps) x said.known said.open_at)
    (ap (λ x. commands ++ x) (outside_kept inside number st said.steps) ∙ sym (append_assoc commands (outside_with inside st []) (outside (inside_after st inside) said.steps)))
later_more front commands inside number st (Err e) = refl

-- a line without a fault
line_read : (front : List Step) (commands : List Command) (known next : Known) (open_at : Option ℕ) (number : ℕ) (st : Statement) (line : List ℕ) (rest : List (List ℕ)) → at_line number (line_meaning known (is_some open_at) line) ≡ Ok (st, next) → gathered_behind front commands (is_some open_at) (lines_meaning known open_at number (line ∷ rest)) ≡ gathered_behind (front ++ later_with (is_some open_at) (record { line = number; what = st }) []) (commands ++ outside_with (is_some open_at) st []) (is_some (opened st number open_at)) (lines_meaning next (opened st number open_at) (number + 1) rest)
unfolding lines_meaning
line_read front commands known next open_at number st line rest read =
    let more = lines_meaning next (opened st number open_at) (number + 1) rest in
    ap (λ r. gathered_behind front commands (is_some open_at) (r >>= (λ said. lines_meaning said.1 (opened said.0 number open_at) (number + 1) rest >>= (λ others. Ok (said_before number said.0 others))))) read
    ∙ later_more front commands (is_some open_at) number st more
    ∙ ap (λ b. gathered_behind (front ++ later_with (is_some open_at) (record { line = number; what = st }) []) (commands ++ outside_with (is_some open_at) st []) b more) (sym (opened_inside st number open_at))

-- a line with a fault
line_fails : (front : List Step) (commands : List Command) (known : Known) (open_at : Option ℕ) (number : ℕ) (e : ℕ × ScriptKind) (line : List ℕ) (rest : List (List ℕ)) → at_line number (line_meaning known (is_some open_at) line) ≡ Err e → gathered_behind front commands (is_some open_at) (lines_meaning known open_at number (line ∷ rest)) ≡ Err e
unfolding lines_meaning
line_fails front commands known open_at number e line rest read =
    ap (λ r. gathered_behind front commands (is_some open_at) (r >>= (λ said. lines_meaning said.1 (opened said.0 number open_at) (number + 1) rest >>= (λ others. Ok (said_before number said.0 others))))) read

-- no line left
pub lines_end : (front : List Step) (commands : List Command) (known : Known) (open_at : Option ℕ) (number : ℕ) (inside : Bool) (all : List (List ℕ)) → all ≡ [] → gathered_behind front commands inside (lines_meaning known open_at number all) ≡ Ok (record { steps = front; commands = commands; known = known; open_at = open_at })
unfolding lines_meaning later outside told
lines_end front commands known open_at number inside all h =
    ap (λ ls. gathered_behind front commands inside (lines_meaning known open_at number ls)) h
    ∙ ap (λ steps. told steps (commands ++ []) known open_at) (append-nil front)
    ∙ ap (λ x. told front x known open_at) (append-nil commands)

-- a line that was taken
pub took_line : (front after : List Step) (commands more : List Command) (known next : Known) (open_at o : Option ℕ) (number : ℕ) (st : Statement) (line : List ℕ) (inside : Bool) → inside ≡ is_some open_at → line_meaning known inside line ≡ Ok (st, next) → after ≡ front ++ later_with (is_some open_at) (record { line = number; what = st }) [] → more ≡ commands ++ outside_with (is_some open_at) st [] → o ≡ opened st number open_at → (rest : List (List ℕ)) → gathered_behind front commands (is_some open_at) (lines_meaning known open_at number (line ∷ rest)) ≡ gathered_behind after more (is_some o) (lines_meaning next o (number + 1) rest)
took_line front after commands more known next open_at o number st line inside hi read ha hc ho rest =
    line_read front commands known next open_at number st line rest (ap (λ i. at_line number (line_meaning known i line)) (sym hi) ∙ ap (at_line number) read)
    ∙ ap (λ x. gathered_behind x (commands ++ outside_with (is_some open_at) st []) (is_some (opened st number open_at)) (lines_meaning next (opened st number open_at) (number + 1) rest)) (sym ha)
    ∙ ap (λ x. gathered_behind after x (is_some (opened st number open_at)) (lines_meaning next (opened st number open_at) (number + 1) rest)) (sym hc)
    ∙ ap (λ x. gathered_behind after more (is_some x) (lines_meaning next x (number + 1) rest)) (sym ho)

-- a line that was refused
pub lost_line : (front : List Step) (commands : List Command) (known : Known) (open_at : Option ℕ) (number : ℕ) (e : LineFault) (line : List ℕ) (inside : Bool) → inside ≡ is_some open_at → Fails e (line_meaning known inside line) → (rest : List (List ℕ)) → FailsAt (at_number number e) (gathered_behind front commands (is_some open_at) (lines_meaning known open_at number (line ∷ rest)))
lost_line front commands known open_at number fault.NoMemory line inside hi read rest = tt
lost_line front commands known open_at number (fault.Kind k) line inside hi read rest =
    line_fails front commands known open_at number (number, k) line rest (ap (λ i. at_line number (line_meaning known i line)) (sym hi) ∙ ap (at_line number) read)
