-- What an ask by number answers, and what an object is worth.
use Rattle.std.specs.Prelude.{◌≡◌, ℕ, Bool, List, ℤ, Option, Result, Ok, Err}
use Rattle.desk_terms.specs.declared.asked.Asked.{Asked}
use Rattle.desk_terms.specs.declared.cause.Cause.{Cause}
use Rattle.desk_terms.specs.declared.value.Value.TheVariants.{Money, Curve}
use Rattle.desk_terms.specs.Reading.{Outcome, Calc}
use Rattle.desk_model.specs.State.{kept_at}
use Rattle.session_model.specs.declared.place.Place.TheVariants.{Priced}
use Rattle.session_model.specs.Pricing.{asking}
use Rattle.session_model.specs.Resolve.{find}
use Rattle.session_model.specs.Standing.{Standing}
use Rattle.session_core.specs.Pricing.{Prices, StopsShort}
use Rattle.session_core.specs.Values.{value_of}
use Rattle.pricing_session.specs.declared.answer.Answer.{Answer}
use Rattle.pricing_session.specs.declared.fault.AskFault.{AskFault}
use Rattle.pricing_session.specs.declared.fault.AskFault.TheVariants as ask
use Rattle.pricing_session.specs.declared.fault.PriceFault.{PriceFault}
use Rattle.pricing_session.specs.declared.fault.PriceFault.TheVariants as price
use Rattle.pricing_session.specs.Worth.{worth_in}

-- the live lazy object that has the name is asked, and its last value after it is the one by its name
pub record IsAsked (calc : Calc) (name : ℕ) (old new : Standing) (answer : Asked) (count_old count_new : ℕ)
    (log_old log_new : Option (List (ℕ × Bool))) : Type 0 where
  pub object : ℕ
  pub found : find Priced old name ≡ Ok object
  pub prices : Prices (asking calc object old.state) object old new answer count_old count_new log_old log_new
  pub value : value_of new name ≡ (kept_at new.state object).last

-- memory ran out in it
pub record IsCutShort (calc : Calc) (name : ℕ) (old new : Standing) (count_old count_new : ℕ)
    (log_old log_new : Option (List (ℕ × Bool))) : Type 0 where
  pub object : ℕ
  pub found : find Priced old name ≡ Ok object
  pub stops : StopsShort (asking calc object old.state) old new count_old count_new log_old log_new

-- an ask is answered by the definition, or refused where no such object has the name
abbrev pub AnswersAsk : Calc → ℕ → Standing → Standing → Result Asked AskFault → ℕ → ℕ → Option (List (ℕ × Bool))
    → Option (List (ℕ × Bool)) → Type 0
AnswersAsk calc name old new (Ok answer) count_old count_new log_old log_new =
    IsAsked calc name old new answer count_old count_new log_old log_new
AnswersAsk calc name old new (Err (ask.Refused refusal)) count_old count_new log_old log_new =
    find Priced old name ≡ Err refusal
AnswersAsk calc name old new (Err ask.NoMemory) count_old count_new log_old log_new =
    IsCutShort calc name old new count_old count_new log_old log_new

-- an ask is answered with what the object is worth, how the answer stands to the market, and the number of computations
pub record IsAnswered (calc : Calc) (name : ℕ) (old new : Standing) (answer : Answer) (count_old count_new : ℕ)
    (log_old log_new : Option (List (ℕ × Bool))) : Type 0 where
  pub cause : Option Cause
  pub asked : IsAsked calc name old new (record { cause = cause; mark = answer.mark; runs = answer.runs }) count_old count_new log_old log_new
  pub worth : answer.worth ≡ worth_in (asking calc asked.object old.state).outcome

-- the price that an outcome is: an amount, which no curve is
abbrev pub price_in : Outcome → Result ℤ PriceFault
price_in (Ok (Money amount)) = Ok amount
price_in (Ok (Curve curve)) = Err price.NotMoney
price_in (Err cause) = Err (price.Unpriced cause)

-- the object that has the name is asked, and the price is that of what the ask shows
pub record IsPriced (calc : Calc) (name : ℕ) (old new : Standing) (result : Result ℤ PriceFault) (count_old count_new : ℕ)
    (log_old log_new : Option (List (ℕ × Bool))) : Type 0 where
  pub answer : Asked
  pub asked : IsAsked calc name old new answer count_old count_new log_old log_new
  pub price : result ≡ price_in (asking calc asked.object old.state).outcome

abbrev pub AnswersPrice : Calc → ℕ → Standing → Standing → Result ℤ PriceFault → ℕ → ℕ → Option (List (ℕ × Bool))
    → Option (List (ℕ × Bool)) → Type 0
AnswersPrice calc name old new (Ok amount) count_old count_new log_old log_new =
    IsPriced calc name old new (Ok amount) count_old count_new log_old log_new
AnswersPrice calc name old new (Err (price.Refused refusal)) count_old count_new log_old log_new =
    find Priced old name ≡ Err refusal
AnswersPrice calc name old new (Err (price.Unpriced cause)) count_old count_new log_old log_new =
    IsPriced calc name old new (Err (price.Unpriced cause)) count_old count_new log_old log_new
AnswersPrice calc name old new (Err price.NotMoney) count_old count_new log_old log_new =
    IsPriced calc name old new (Err price.NotMoney) count_old count_new log_old log_new
AnswersPrice calc name old new (Err price.NoMemory) count_old count_new log_old log_new =
    IsCutShort calc name old new count_old count_new log_old log_new
