-- What the calls on curves of a session for C give.
use Rattle.std.specs.Prelude.{◌≡◌, ◌⊎◌, ◌≤◌, ℕ, ℤ, List, [], length, slice_get, Some, None, Result, Ok, Err}
use Rattle.curve_points.specs.declared.curves.CurveNode.{CurveNode}
use Rattle.curve_points.specs.Curve.{points}
use Rattle.curve_points.specs.Curve as curves
use Rattle.desk_bench.specs.Pricing.{desk_calc}
use Rattle.desk_terms.specs.declared.asked.Asked.{Asked}
use Rattle.desk_terms.specs.declared.cause.Cause.{Cause}
use Rattle.desk_terms.specs.declared.value.Value.TheVariants.{Money, Curve}
use Rattle.pricing_session.specs.Asking.{IsAsked, IsCutShort as AskIsCutShort}
use Rattle.session_commands.specs.declared.command.Command.TheVariants.{Df}
use Rattle.session_commands.specs.declared.refusal.Refusal.{Refusal}
use Rattle.session_core.specs.Values.{value_of}
use Rattle.session_model.specs.declared.place.Place.TheVariants.{Priced}
use Rattle.session_model.specs.Pricing.{asking, discount_in}
use Rattle.session_model.specs.Resolve.{find, curve}
use Rattle.desk_c.specs.declared.kept.Kept.{Kept}
use Rattle.desk_c.specs.Calls.{standing_of, number_of, lines_of, KeepsRest, IsUnsaid}
use Rattle.desk_c.specs.Numbers.{mark_number, day_code}

-- A DISCOUNT FACTOR is asked for: this is found, the line of the command is the text, and nothing else is changed
pub record Discounts (name : List ℕ) (day : ℤ) (Told : Result ℤ Cause → Asked → Type 0) (old new : Kept) : Type 0 where
  pub answer : Asked
  pub asked : IsAsked desk_calc (number_of name old) (standing_of old) (standing_of new) answer old.session.bench.calls
      new.session.bench.calls None None
  pub found : find curve (standing_of old) (number_of name old) ≡ Ok asked.object
  pub told : Told (discount_in asked.object day (asking desk_calc asked.object (standing_of old).state).outcome) answer
  pub rest : KeepsRest old new
  pub text : new.text.items ≡ lines_of (Df (number_of name old) day) old

-- a factor, in units of 10^-12
pub record IsFactor (units : ℤ) (mark runs : ℕ) (found : Result ℤ Cause) (answer : Asked) : Type 0 where
  pub factor : found ≡ Ok units
  pub stands : mark ≡ mark_number answer.mark
  pub number : runs ≡ answer.runs

-- none, for a cause
abbrev pub IsNoFactor : Result ℤ Cause → Asked → Type 0
IsNoFactor found answer = (cause : Cause) × (found ≡ Err cause)

-- the name is none of a curve: the line of the refusal is the text
pub record IsNoCurve (name : List ℕ) (day : ℤ) (old new : Kept) : Type 0 where
  pub refusal : Refusal
  pub fails : find curve (standing_of old) (number_of name old) ≡ Err refusal
  pub same : new.session ≡ old.session
  pub text : new.text.items ≡ lines_of (Df (number_of name old) day) old

-- memory ran out in it or in its line: what was computed is kept, nothing else is changed, and the text is empty
pub record IsDiscountCut (name : List ℕ) (old new : Kept) : Type 0 where
  pub stops : IsUnsaid curve name old new ⊎ AskIsCutShort desk_calc (number_of name old) (standing_of old) (standing_of new)
      old.session.bench.calls new.session.bench.calls None None
  pub rest : KeepsRest old new
  pub text : new.text.items ≡ []

-- the last value of the object that has the name is this curve
abbrev pub HasCurve : List ℕ → Kept → curves.Curve → Type 0
HasCurve name kept curve = value_of (standing_of kept) (number_of name kept) ≡ Some (Curve curve)

-- A NODE of that curve, its beginning being node 0
pub record IsNode (name : List ℕ) (at day : ℕ) (units : ℤ) (count : ℕ) (kept : Kept) : Type 0 where
  pub curve : curves.Curve
  pub is_curve : HasCurve name kept curve
  pub node : CurveNode
  pub there : slice_get (points curve) at ≡ Some node
  pub day_is : day ≡ day_code node.day
  pub factor : units ≡ node.factor
  pub number : count ≡ length (points curve)

-- it has fewer nodes
pub record IsPast (name : List ℕ) (at count : ℕ) (kept : Kept) : Type 0 where
  pub curve : curves.Curve
  pub is_curve : HasCurve name kept curve
  pub past : length (points curve) ≤ at
  pub number : count ≡ length (points curve)

-- the object that has the name has no value yet, or one that is no curve
abbrev pub HasNone : List ℕ → Kept → Type 0
HasNone name kept = (object : ℕ) × ((find Priced (standing_of kept) (number_of name kept) ≡ Ok object)
    × (value_of (standing_of kept) (number_of name kept) ≡ None))

abbrev pub HasMoney : List ℕ → Kept → Type 0
HasMoney name kept = (amount : ℤ) × (value_of (standing_of kept) (number_of name kept) ≡ Some (Money amount))
