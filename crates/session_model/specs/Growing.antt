-- A session that grows while it runs (this project's profile).
use Rattle.std.specs.Prelude.{ℕ, List, [], ◌∷◌, ◌++◌, None}
use Rattle.session_commands.specs.declared.command.Command.{Command}
use Rattle.session_model.specs.Standing.{Standing}

-- A NAME MORE: its text stands behind the others, and no watcher of it has an action
abbrev pub learn : List ℕ → Standing → Standing
learn text p = record p { names = p.names ++ text ∷ []; watching = p.watching ++ None ∷ [] }

-- AN ACTION MORE: a block of commands stands behind the others
abbrev pub with_action : List Command → Standing → Standing
with_action block p = record p { actions = p.actions ++ block ∷ [] }
