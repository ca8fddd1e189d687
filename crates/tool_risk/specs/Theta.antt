-- THETA: what an instrument gains by the next business day where every quote stays (this project's profile). V(tomorrow) less V, and
-- what V counts today and V(tomorrow) no longer counts, since it is paid in between: over a curve that begins some days after the
-- evaluation date a payment leaves the price those days before it is paid.
use Rattle.std.specs.Prelude.{ℕ, ℤ, ◌+ℤ◌, ◌-ℤ◌, List, [], Option, None, Some, Result, Ok, Err}
use Rattle.desk_terms.specs.declared.cause.Cause.{Cause}
use Rattle.desk_terms.specs.Reading.{Calc}
use Rattle.desk_model.specs.Effect.{today_set}
use Rattle.desk_model.specs.Market.{Market}
use Rattle.desk_model.specs.State.{State}
use Rattle.bump_model.specs.Asking.{Asking, none, then_ask, ladder_asking}
use Rattle.bump_model.specs.Sides.{worth}
use Rattle.tool_risk.specs.declared.theta.Gain.{Gain}
use Rattle.tool_risk.specs.declared.theta.Gain.TheVariants.{Is, Tomorrow, Paid}
use Rattle.tool_risk.specs.declared.theta.Theta.{Theta}
use Rattle.tool_risk.specs.declared.theta.Theta.TheVariants.{On, Limit}
use Rattle.tool_risk.specs.Dues.{Span, span_of, paid}
use Rattle.tool_risk.specs.Given.{naming_in, curves_given, curves_asking}
use Rattle.tool_risk.specs.Tomorrow.{tomorrow_of}

abbrev pub on_day : ℤ → Market → Market
on_day day market = record market { today = day }

-- an amount, or why there is none: V(tomorrow) is refused, or what is paid is
abbrev pub gain_of : ℤ → Result ℤ Cause → Result ℤ Cause → Gain
gain_of base (Err cause) due = Tomorrow cause
gain_of base (Ok amount) (Err cause) = Paid cause
gain_of base (Ok amount) (Ok due) = Is ((amount -ℤ base) +ℤ due)

-- the curves that the engines and indexes beneath o give today and on a day
abbrev pub span_at : Calc → Market → ℕ → ℤ → Span
span_at calc market o day =
    span_of day (curves_given calc market (naming_in market o)) (curves_given calc (on_day day market) (naming_in market o))

-- what is gained by a day, of an instrument that is worth so much
abbrev pub gain_by : Calc → Market → ℕ → ℤ → ℤ → Gain
gain_by calc market o base day = gain_of base (worth calc (on_day day market) o) (paid market o (span_at calc market o day))

abbrev pub theta_on : Calc → Market → ℕ → ℤ → Option ℤ → Theta
theta_on calc market o base None = Limit
theta_on calc market o base (Some day) = On day (gain_by calc market o base day)

-- THE THETA of an instrument that is worth so much today
abbrev pub theta_of : Calc → Market → ℕ → ℤ → Theta
theta_of calc market o base = theta_on calc market o base (tomorrow_of market o)

-- ---- THE ASKS for it: the curves of today; then today is moved, the instrument and the curves are asked for, and today is set back

-- a ladder without rungs asks for its base
abbrev pub later_asking : Calc → ℤ → ℕ → List ℕ → State → Asking
later_asking calc size o names s = then_ask (ladder_asking calc size o [] s) (curves_asking calc names)

-- those of another day, for the instrument and the curves of these engines and indexes; today is set back
unfoldable pub day_asking : Calc → ℤ → ℕ → List ℕ → ℤ → State → Asking
day_asking calc size o names day s = record {
  calls = (later_asking calc size o names (today_set day s)).calls;
  next = today_set s.market.today (later_asking calc size o names (today_set day s)).next;
}

abbrev pub asking_on : Calc → ℤ → ℕ → Option ℤ → State → Asking
asking_on calc size o None s = none s
asking_on calc size o (Some day) s =
    then_ask (curves_asking calc (naming_in s.market o) s) (day_asking calc size o (naming_in s.market o) day)

-- ALL THAT A THETA ASKS: nothing where there is no next business day
unfoldable pub theta_asking : Calc → ℤ → ℕ → State → Asking
theta_asking calc size o s = asking_on calc size o (tomorrow_of s.market o) s
