-- A line is a round or a fault.
use Rattle.std.proofs.Common.{◌≡◌, Bool, cond, length, Option, Some, None, Err, refl, sym, ap, subst}
use Rattle.std.proofs.lemmas.Bool.{lt-ltb}
use Rattle.session_commands.specs.declared.command.Command.{Command}
use Rattle.session_commands.specs.declared.script_kind.ScriptKind.TheVariants as fault
use Rattle.script_words.specs.Given.{◌>>=◌}
use Rattle.session_lang.specs.Statement.{line_meaning}
use Rattle.session_lang.specs.Reading.{linked}
use Rattle.session_model.specs.Course.{Meaning, round_of}
use Rattle.live_model.specs.declared.limits.TheConstants.{MOST_LINE}
use Rattle.live_model.specs.Live.{Block, Live, meaning, unless_lacking, knowing, counted, Saying, commanded, answered, said}
use Rattle.live_model.specs.Laws.{DoesRound, CommandsAreRounds, FaultsChangeNothing, LongLinesAreFaults}

round_by : {P : Type 0} → (m : Meaning P) (block : Option Block) (s : Live P) (c : Command) → block ≡ None
    → DoesRound P (commanded m block s c) s (round_of m s.running c)
round_by m None s c is = record { lines = refl; calls = refl; next = refl }
round_by m (Some block) s c is = absurd (cc)

pub commands_are_rounds : {P : Type 0} → CommandsAreRounds P
unfolding said
commands_are_rounds {P} m s line c known none is =
    subst (λ (x : Saying P). DoesRound P x (knowing known (counted s)) (round_of m (knowing known s).running (linked known c)))
    (sym (ap (answered m (counted s)) is)) (round_by m s.block (knowing known (counted s)) (linked known c) none)

pub faults_change_nothing : {P : Type 0} → FaultsChangeNothing P
unfolding said
faults_change_nothing m s line kind is = ap (answered m (counted s)) is

pub long_lines : LongLinesAreFaults
unfolding meaning
long_lines known inside line long =
    ap (λ (b : Bool). cond b (Err fault.TooLong) (line_meaning known inside line >>= unless_lacking)) (lt-ltb MOST_LINE (length line) long)
