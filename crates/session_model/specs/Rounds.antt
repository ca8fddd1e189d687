-- The transcript of a session: the lines of the rounds of its commands, each over the session that the rounds before it
-- left.
use Rattle.std.specs.Prelude.{ℕ, Bool, List, [], ◌∷◌, ◌++◌}
use Rattle.session_commands.specs.declared.command.Command.{Command}
use Rattle.session_model.specs.Course.{Running, Meaning, Course, round_of}

-- the rounds of the commands, one for each
unfoldable pub rounds : {P : Type 0} → Meaning P → Running P → List Command → List (Course P)
rounds m r [] = []
rounds m r (command ∷ commands) = round_of m r command ∷ rounds m (round_of m r command).next commands

unfoldable pub lines_of : {P : Type 0} → List (Course P) → List ℕ
lines_of [] = []
lines_of (course ∷ courses) = course.lines ++ lines_of courses

unfoldable pub calls_in : {P : Type 0} → List (Course P) → List (ℕ × Bool)
calls_in [] = []
calls_in (course ∷ courses) = course.calls ++ calls_in courses

-- the lines of the commands
abbrev pub transcript : {P : Type 0} → Meaning P → Running P → List Command → List ℕ
transcript m r commands = lines_of (rounds m r commands)

-- the computations of the commands
abbrev pub calls_of : {P : Type 0} → Meaning P → Running P → List Command → List (ℕ × Bool)
calls_of m r commands = calls_in (rounds m r commands)
