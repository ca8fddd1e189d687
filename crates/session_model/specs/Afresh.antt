-- What is answered at each moment of a session: the price afresh where nothing is held back.
use Rattle.std.specs.Prelude.{◌≡◌, ℕ, ℤ, Bool, true, false, List, length, All, Ok}
use Rattle.desk_terms.specs.declared.asked.Mark.{Mark}
use Rattle.desk_terms.specs.declared.asked.Mark.TheVariants.{Fresh, Frozen, Late}
use Rattle.desk_terms.specs.declared.terms.Terms.{Terms}
use Rattle.desk_terms.specs.Reading.{Calc}
use Rattle.desk_model.specs.Fresh.{fresh}
use Rattle.desk_model.specs.State.{last_answer, is_frozen, is_late, is_clear}
use Rattle.desk_model.specs.Unheld.{HoldsNothing}
use Rattle.desk_model.specs.Visit.{runs}
use Rattle.session_commands.specs.declared.command.Command.{Command}
use Rattle.session_commands.specs.declared.command.Command.TheVariants.{Quote, Sum, Difference, Handle, Stock, Composite, Member, Set, Unset, Link, Unlink, Engine, Today, Fixing, Freeze, Thaw, Recalc, Forward, Defer, Resume, Watch, Register, Unregister, Drop, Ask, Df}
use Rattle.price_report.specs.Line.{asked_line, df_line}
use Rattle.session_model.specs.declared.place.Place.TheVariants as place
use Rattle.session_model.specs.Resolve.{find, curve}
use Rattle.session_model.specs.Standing.{Standing, start_with}
use Rattle.session_model.specs.Pricing.{discount_in}
use Rattle.session_model.specs.Turn.{turn}
use Rattle.session_model.specs.Course.{Running, Meaning}
use Rattle.session_model.specs.Moments.{moments}

-- whether a command neither freezes nor defers
abbrev pub holds_nothing : Command → Bool
holds_nothing (Quote name value) = true
holds_nothing (Sum name a b) = true
holds_nothing (Difference name a b) = true
holds_nothing (Handle name is_curve) = true
holds_nothing (Stock name q) = true
holds_nothing (Composite name) = true
holds_nothing (Member k i weight) = true
holds_nothing (Set q value) = true
holds_nothing (Unset q) = true
holds_nothing (Link h t) = true
holds_nothing (Unlink h) = true
holds_nothing (Engine i e) = true
holds_nothing (Today day) = true
holds_nothing (Fixing x day rate) = true
holds_nothing (Freeze o) = false
holds_nothing (Thaw o) = true
holds_nothing (Recalc o) = true
holds_nothing (Forward o is_on) = true
holds_nothing Defer = false
holds_nothing Resume = true
holds_nothing (Watch w action) = true
holds_nothing (Register w o) = true
holds_nothing (Unregister w o) = true
holds_nothing (Drop o) = true
holds_nothing (Ask o) = true
holds_nothing (Df c day) = true

-- What an ask, and an ask for a discount factor, write of an object that they find: its price afresh from the market of
-- that moment, marked fresh. The fresh price is refused exactly where the line says so.
pub record IsAskedAfresh (calc : Calc) (p : Standing) (name object : ℕ) : Type 0 where
  pub ask : find place.Priced p name ≡ Ok object
      → (turn calc p (Ask name)).lines
      ≡ asked_line p.names p.of_object name (fresh calc p.state.market object) Fresh (length (runs calc p.state object))
  pub df : (day : ℤ) → find curve p name ≡ Ok object
      → (turn calc p (Df name day)).lines
      ≡ df_line p.names p.of_object name day (discount_in object day (fresh calc p.state.market object)) Fresh
      (length (runs calc p.state object))

-- What they write of one that is held: its last value, or that it has none, with this mark, and nothing is computed.
pub record IsAskedHeld (calc : Calc) (p : Standing) (name object : ℕ) (mark : Mark) : Type 0 where
  pub ask : find place.Priced p name ≡ Ok object
      → (turn calc p (Ask name)).lines ≡ asked_line p.names p.of_object name (last_answer p.state object) mark 0
  pub df : (day : ℤ) → find curve p name ≡ Ok object
      → (turn calc p (Df name day)).lines
      ≡ df_line p.names p.of_object name day (discount_in object day (last_answer p.state object)) mark 0

-- WHAT IS ANSWERED: afresh where neither the object nor any beneath it is frozen or a deferred source; the last value
-- where it is frozen, and where it is not frozen and late
pub record AnswersOf (calc : Calc) (p : Standing) (name object : ℕ) : Type 0 where
  pub clear : is_clear p.state object ≡ true → IsAskedAfresh calc p name object
  pub frozen : is_frozen p.state object ≡ true → IsAskedHeld calc p name object Frozen
  pub late : is_frozen p.state object ≡ false → is_late p.state object ≡ true → IsAskedHeld calc p name object Late

abbrev pub Answers : Calc → Standing → Type 0
Answers calc p = (name object : ℕ) → AnswersOf calc p name object

-- THE SAME AT EACH MOMENT of a session: at the top and in the actions of watchers, whoever of them runs first
abbrev pub AnswersAreOfTheirMoments : Type 0 → Type 0
AnswersAreOfTheirMoments P = (m : Meaning P) (r : Running P) (commands : List Command)
    → All (λ moment. Answers m.calc moment.standing) (moments m r commands)

-- each object that is asked is answered afresh
abbrev pub AreAskedAfresh : Calc → Standing → Type 0
AreAskedAfresh calc p = (name object : ℕ) → IsAskedAfresh calc p name object

-- WITHOUT FREEZING AND DEFERRAL, in commands and in actions, each answer is the price afresh, and each mark `fresh`
abbrev pub PlainSessionsAreFresh : Type 0 → Type 0
PlainSessionsAreFresh P = (m : Meaning P) (r : Running P) (commands : List Command) → HoldsNothing r.standing.state
    → All (λ c. holds_nothing c ≡ true) commands
    → All (λ action. All (λ c. holds_nothing c ≡ true) action) r.standing.actions
    → All (λ moment. AreAskedAfresh m.calc moment.standing) (moments m r commands)

-- a session begins so
abbrev pub SessionsBeginUnheld : Type 0
SessionsBeginUnheld = (today : ℤ) (names : List (List ℕ)) (made : List (ℕ × Terms)) (actions : List (List Command))
    → HoldsNothing (start_with today names made actions).state
