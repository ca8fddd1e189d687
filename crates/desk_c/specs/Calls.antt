-- What the calls of a session for C give.
use Rattle.std.specs.Prelude.{◌≡◌, ◌⊎◌, ◌++◌, ◌^◌, ◌<◌, ◌≤◌, unsigned_abs, ◌*ℤ◌, ◌+ℤ◌, pos, ℕ, ℤ, true, List, [], Option, Some, None, Ok, Err}
use Rattle.std.specs.Result.{result_err}
use Rattle.desk_bench.specs.Pricing.{desk_calc}
use Rattle.desk_names.specs.Names.{has_text, place_of}
use Rattle.curve_points.specs.Curve as points
use Rattle.desk_terms.specs.declared.asked.Asked.{Asked}
use Rattle.desk_terms.specs.declared.cause.Cause.{Cause}
use Rattle.desk_terms.specs.declared.value.Value.TheVariants.{Money, Curve}
use Rattle.desk_terms.specs.Reading.{Outcome}
use Rattle.pricing_session.specs.Asking.{IsAsked, IsCutShort as AskIsCutShort}
use Rattle.pricing_session.specs.Speaking.{as_live}
use Rattle.session_commands.specs.declared.command.Command.{Command}
use Rattle.session_commands.specs.declared.command.Command.TheVariants.{Set, Ask}
use Rattle.session_commands.specs.declared.refusal.Refusal.{Refusal}
use Rattle.session_model.specs.declared.place.Place.{Place}
use Rattle.session_model.specs.declared.place.Place.TheVariants.{Priced}
use Rattle.session_model.specs.Course.{Meaning, taken}
use Rattle.session_model.specs.Pricing.{asking}
use Rattle.session_model.specs.Resolve.{find, resolve}
use Rattle.session_model.specs.Standing.{Standing}
use Rattle.session_model.specs.Turn.{turn}
use Rattle.watch_rounds.specs.Order.{order_at, order_after}
use Rattle.watch_rounds.specs.declared.picker.Order.{Order}
use Rattle.live_model.specs.Live.{said}
use Rattle.live_session.specs.Saying.{IsCutShort}
use Rattle.desk_c.specs.declared.kept.Kept.{Kept}
use Rattle.desk_c.specs.Numbers.{mark_number}

-- the rule by which the bench prices, and the order of watchers that are due
abbrev pub ordered : Meaning Order
ordered = record { calc = desk_calc; at = order_at; after = order_after }

abbrev pub standing_of : Kept → Standing
standing_of kept = kept.session.running.standing

-- both hold something, and so it is with the two
abbrev pub Both : {A : Type 0} → (A → A → Type 0) → Option A → Option A → Type 0
Both R (Some old) (Some new) = R old new
Both R (Some old) None = ⊥
Both R None new = ⊥

-- it holds something, of which this is true
abbrev pub Holds : {A : Type 0} → (A → Type 0) → Option A → Type 0
Holds R (Some kept) = R kept
Holds R None = ⊥

-- the text of the last call
abbrev pub text_of : Option Kept → List ℕ
text_of None = []
text_of (Some kept) = kept.text.items

-- A LINE IS SAID: the session after it, and its lines
pub record Says (line : List ℕ) (old new : Kept) : Type 0 where
  pub next : as_live new.session ≡ (said ordered (as_live old.session) line).next
  pub text : new.text.items ≡ (said ordered (as_live old.session) line).lines

-- memory ran out in it: a front of its lines, and the session as it was but for a front of the line's new names, or stopped
pub record IsCutOff (line : List ℕ) (old new : Kept) : Type 0 where
  pub rest : List ℕ
  pub text : (said ordered (as_live old.session) line).lines ≡ new.text.items ++ rest
  pub session : IsCutShort Order line (as_live old.session) (as_live new.session)

-- the number of a name
abbrev pub number_of : List ℕ → Kept → ℕ
number_of name kept = place_of (standing_of kept).names name

-- the command that gives the quote of a name a value
abbrev pub setting : List ℕ → ℤ → Kept → Command
setting name units kept = Set (number_of name kept) units

-- the turn of a command is taken, its line is let go, and nothing else is changed
abbrev pub after_turn : Command → Kept → Kept
after_turn c kept = record kept {
  session = record kept.session { running = (taken (turn desk_calc (standing_of kept) c) kept.session.running).next };
}

-- A QUOTE IS SET
pub record Sets (name : List ℕ) (units : ℤ) (old new : Kept) : Type 0 where
  pub allowed : result_err (resolve (standing_of old) (setting name units old)) ≡ None
  pub next : new ≡ after_turn (setting name units old) old

-- the name is refused
pub record IsNotSet (name : List ℕ) (units : ℤ) (old new : Kept) : Type 0 where
  pub refusal : Refusal
  pub resolves : resolve (standing_of old) (setting name units old) ≡ Err refusal
  pub same : standing_of new ≡ standing_of old
  pub next : new ≡ after_turn (setting name units old) old

-- the name is known and the number within its limit, and an earlier line found no memory in its round
abbrev pub IsHalted : List ℕ → ℤ → Kept → Type 0
IsHalted name units kept =
    (has_text (standing_of kept).names name ≡ true) × ((unsigned_abs units ≤ 10 ^ 18) × ((standing_of kept).stopped ≡ true))

-- the lines of a command's turn: what the line of a script that is this command writes
abbrev pub lines_of : Command → Kept → List ℕ
lines_of c kept = (turn desk_calc (standing_of kept) c).lines

-- all but the text and what is stored of objects is as it was
abbrev pub KeepsRest : Kept → Kept → Type 0
KeepsRest old new =
    as_live new.session ≡ record (as_live old.session) { running = record old.session.running { standing = standing_of new } }

-- AN OBJECT IS ASKED: such an outcome and such an answer show, the line of the ask is the text, and nothing else is changed
pub record Asks (name : List ℕ) (Told : Outcome → Asked → Type 0) (old new : Kept) : Type 0 where
  pub answer : Asked
  pub asked : IsAsked desk_calc (number_of name old) (standing_of old) (standing_of new) answer old.session.bench.calls
      new.session.bench.calls None None
  pub told : Told (asking desk_calc asked.object (standing_of old).state).outcome answer
  pub rest : KeepsRest old new
  pub text : new.text.items ≡ lines_of (Ask (number_of name old)) old

-- two parts of an amount
abbrev pub money_parts : ℤ → ℤ → ℤ
money_parts high low = high *ℤ pos (10 ^ 18) +ℤ low

-- money, in two parts of which the second is less than the unit of the first
pub record IsPriced (high low : ℤ) (mark runs : ℕ) (outcome : Outcome) (answer : Asked) : Type 0 where
  pub worth : outcome ≡ Ok (Money (money_parts high low))
  pub small : unsigned_abs low < 10 ^ 18
  pub stands : mark ≡ mark_number answer.mark
  pub number : runs ≡ answer.runs

-- no value, for a cause
abbrev pub IsUnpriced : Outcome → Asked → Type 0
IsUnpriced outcome answer = (cause : Cause) × (outcome ≡ Err cause)

-- a curve
abbrev pub IsCurve : Outcome → Asked → Type 0
IsCurve outcome answer = (curve : points.Curve) × (outcome ≡ Ok (Curve curve))

-- the name is none of an object that is priced: the line of the refusal is the text
pub record IsNotAsked (name : List ℕ) (old new : Kept) : Type 0 where
  pub refusal : Refusal
  pub fails : find Priced (standing_of old) (number_of name old) ≡ Err refusal
  pub same : new.session ≡ old.session
  pub text : new.text.items ≡ lines_of (Ask (number_of name old)) old

-- memory ran out in the line of a refusal
pub record IsUnsaid (place : Place) (name : List ℕ) (old new : Kept) : Type 0 where
  pub refusal : Refusal
  pub fails : find place (standing_of old) (number_of name old) ≡ Err refusal
  pub same : new.session ≡ old.session

-- memory ran out in the ask or in its line: what was computed is kept, nothing else is changed, and the text is empty
pub record IsAskCut (name : List ℕ) (old new : Kept) : Type 0 where
  pub stops : IsUnsaid Priced name old new ⊎ AskIsCutShort desk_calc (number_of name old) (standing_of old) (standing_of new)
      old.session.bench.calls new.session.bench.calls None None
  pub rest : KeepsRest old new
  pub text : new.text.items ≡ []
