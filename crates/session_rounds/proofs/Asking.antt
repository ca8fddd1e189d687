-- A session with watchers between rounds, where an object is asked for.
use Rattle.std.proofs.Common.{◌≡◌, ℕ, Bool, List, Option, Result, Ok, Err, refl}
use Rattle.std.specs.Prelude.{take, IfOk, OnErr}
use Rattle.desk_terms.specs.declared.asked.Asked.{Asked}
use Rattle.desk_terms.specs.Reading.{Calc, Outcome}
use Rattle.desk_model.specs.State.{State}
use Rattle.desk_model.specs.Visit.{runs, stored, asked}
use Rattle.session_model.specs.Standing.{Standing}
use Rattle.session_model.specs.Pricing.{asking}
use Rattle.session_model.specs.Course.{Running}
use Rattle.session_core.specs.Pricing.{Prices, StopsShort}
use Rattle.session_rounds.specs.Fits.{Fits}
use Rattle.session_rounds.proofs.Fitting.{fits_priced}

asked_market : (calc : Calc) (o : ℕ) (s : State) → (asked calc o s).market ≡ s.market
unfolding asked stored
asked_market calc o s = refl

stored_market : (s : State) (calls : List (ℕ × Outcome)) → (stored s calls).market ≡ s.market
unfolding stored
stored_market s calls = refl

pub fits_asked : {P E : Type 0} → (calc : Calc) (o : ℕ) (r : Running P) (nodes : ℕ) (new : Standing) (result : Result Asked E)
    (count count_new : ℕ) (log log_new : Option (List (ℕ × Bool))) → Fits P r nodes
    → IfOk result (λ answer. Prices (asking calc o r.standing.state) o r.standing new answer count count_new log log_new)
    → OnErr result (StopsShort (asking calc o r.standing.state) r.standing new count count_new log log_new)
    → Fits P (record r { standing = new }) nodes
fits_asked calc o r nodes new (Ok answer) count count_new log log_new fits prices stops =
    fits_priced r nodes new (asked calc o r.standing.state) fits (asked_market calc o r.standing.state) prices.next
fits_asked calc o r nodes new (Err e) count count_new log log_new fits prices stops =
    fits_priced r nodes new (stored r.standing.state (take stops.ended (runs calc r.standing.state o))) fits
    (stored_market r.standing.state (take stops.ended (runs calc r.standing.state o))) stops.next
