-- What it gives to price an object.
use Rattle.std.specs.Prelude.{ℕ, ℤ, List, Result, Ok, Err}
use Rattle.curve_points.specs.Point.{discount_at}
use Rattle.desk_terms.specs.declared.asked.Mark.{Mark}
use Rattle.desk_terms.specs.declared.asked.Mark.TheVariants as mark
use Rattle.desk_terms.specs.declared.cause.Cause.{Cause}
use Rattle.desk_terms.specs.declared.cause.Cause.TheVariants.{Unpriced}
use Rattle.desk_terms.specs.declared.value.Value.TheVariants.{Money, Curve}
use Rattle.desk_terms.specs.Point.{found_at}
use Rattle.desk_terms.specs.Reading.{Outcome, Calc}
use Rattle.desk_model.specs.State.{State, now, mark_of, shows}
use Rattle.desk_model.specs.Visit.{runs, asked}
use Rattle.desk_model.specs.Recalc.{inputs_walk, reruns, recalced}
use Rattle.price_report.specs.Line.{asked_line, df_line}
use Rattle.session_model.specs.declared.act.How.{How}
use Rattle.session_model.specs.declared.act.How.TheVariants.{Ask, Df, Recalc}

-- What the pricing of an object gives: the state after it, what it shows, its mark, its computations, and of these
-- those whose values stay where memory runs out in it.
pub record Pricing : Type 0 where
  pub next : State
  pub outcome : Outcome
  pub mark : Mark
  pub calls : List (ℕ × Outcome)
  pub survivors : List (ℕ × Outcome)

-- An ask of o shows the price afresh from the market of that moment where nothing beneath o is held back.
abbrev pub asking : Calc → ℕ → State → Pricing
asking calc o s = record {
  next = asked calc o s;
  outcome = shows calc s o;
  mark = mark_of s o;
  calls = runs calc s o;
  survivors = runs calc s o;
}

-- A recalculation of o shows the price over what is seen of its inputs. Its own value is stored with its notice, or not
-- at all, so that of its computations the inputs' alone may stay.
abbrev pub recalculating : Calc → ℕ → State → Pricing
recalculating calc o s = record {
  next = recalced calc o s;
  outcome = now calc s o;
  mark = mark.Recalc;
  calls = reruns calc s o;
  survivors = (inputs_walk calc s o).calls;
}

-- THE ONE TABLE OF PRICINGS: for its discount factor a curve is asked as for its nodes
abbrev pub pricing_of : Calc → ℕ → State → How → Pricing
pricing_of calc o s Ask = asking calc o s
pricing_of calc o s (Df day) = asking calc o s
pricing_of calc o s Recalc = recalculating calc o s

-- The discount factor at a day of what an ask of o shows: that of its curve, refused in the name of o where the day lies
-- outside it, else the refusal of the ask (QuantLib's `YieldTermStructure::discount`). An amount, which no curve is worth,
-- has none.
unfoldable pub discount_in : ℕ → ℤ → Outcome → Result ℤ Cause
discount_in o day (Ok (Curve curve)) = found_at o day (discount_at curve day)
discount_in o day (Ok (Money amount)) = Err (Unpriced o)
discount_in o day (Err cause) = Err cause

-- the line of an object that is priced so, has this name, shows this outcome with this mark, and took so many
-- computations, over these texts of names and names of objects
abbrev pub priced_line : List (List ℕ) → List ℕ → ℕ → ℕ → How → Outcome → Mark → ℕ → List ℕ
priced_line names of_object name o Ask outcome mark number = asked_line names of_object name outcome mark number
priced_line names of_object name o (Df day) outcome mark number =
    df_line names of_object name day (discount_in o day outcome) mark number
priced_line names of_object name o Recalc outcome mark number = asked_line names of_object name outcome mark number
