-- What is proved of these definitions, for every bench and every session.
use Rattle.std.specs.Prelude.{◌≡◌, ℕ, ℤ, Bool, List, [], take, Option}
use Rattle.desk_terms.specs.Reading.{Outcome, Calc}
use Rattle.desk_model.specs.Visit.{runs, stored}
use Rattle.session_model.specs.declared.act.Act.TheVariants as act
use Rattle.session_model.specs.declared.act.How.TheVariants as how
use Rattle.session_model.specs.Standing.{Standing}
use Rattle.session_model.specs.Turn.{Turn}
use Rattle.session_core.specs.Steps.{Ends, BreaksOff}

-- WHERE MEMORY RAN OUT in a turn without a line, or in an ask, the values of the computations that ended are stored,
-- and no others, also where the line of the ask alone is lacking.
pub record EndsStored (old new : Standing) (lines_old lines_new : List ℕ) (count_old count_new : ℕ)
    (log_old log_new : Option (List (ℕ × Bool))) : Type 0 where
  pub silent : (t : Turn) (survivors : List (ℕ × Outcome)) → t.lines ≡ []
      → (e : Ends t survivors old new lines_old lines_new count_old count_new log_old log_new)
      → new.state ≡ stored old.state (take e.ended survivors)
  pub ask : (calc : Calc) (name o : ℕ)
      → (e : BreaksOff calc (act.Price name o how.Ask) old new lines_old lines_new count_old count_new log_old log_new)
      → new.state ≡ stored old.state (take e.ended (runs calc old.state o))
  pub discount : (calc : Calc) (name o : ℕ) (day : ℤ)
      → (e : BreaksOff calc (act.Price name o (how.Df day)) old new lines_old lines_new count_old count_new log_old log_new)
      → new.state ≡ stored old.state (take e.ended (runs calc old.state o))

abbrev pub AsksLeaveStored : Type 0
AsksLeaveStored = (old new : Standing) (lines_old lines_new : List ℕ) (count_old count_new : ℕ)
    (log_old log_new : Option (List (ℕ × Bool)))
    → EndsStored old new lines_old lines_new count_old count_new log_old log_new
