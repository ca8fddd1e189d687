-- What a session is once it interned a text (this project's profile).
use Rattle.std.specs.Prelude.{ℕ, if◌then◌else◌, List, [], ◌∷◌, ◌++◌}
use Rattle.desk_names.specs.Names.{has_text}
use Rattle.watch_rounds.specs.Round.{blank}
use Rattle.session_model.specs.Standing.{Standing}
use Rattle.session_model.specs.Course.{Running}
use Rattle.session_model.specs.Growing.{learn}

-- a session that interns a text: one that it has changes nothing
abbrev pub interned : List ℕ → Standing → Standing
interned text p = if has_text p.names text then p else learn text p

-- the same of a session with watchers: no run of a new name began in its round
abbrev pub learn_in : {P : Type 0} → List ℕ → Running P → Running P
learn_in text r = record r { standing = learn text r.standing; round = record r.round { tallies = r.round.tallies ++ blank ∷ [] } }

abbrev pub interned_in : {P : Type 0} → List ℕ → Running P → Running P
interned_in text r = if has_text r.standing.names text then r else learn_in text r
