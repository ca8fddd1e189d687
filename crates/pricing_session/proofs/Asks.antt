-- An ask leaves every name with its object, and does what the turn of the command does.
use Rattle.std.proofs.Common.{◌≡◌, ◌∙◌, ℕ, Bool, List, ℤ, Option, Result, Ok, Err, refl, sym, ap, subst}
use Rattle.desk_terms.specs.declared.asked.Asked.{Asked}
use Rattle.desk_terms.specs.declared.cause.Cause.{Cause}
use Rattle.desk_terms.specs.declared.value.Value.{Value}
use Rattle.desk_terms.specs.declared.value.Value.TheVariants.{Money, Curve}
use Rattle.desk_terms.specs.Asked.{Shows}
use Rattle.desk_terms.specs.Reading.{Outcome, Calc}
use Rattle.desk_model.specs.State.{kept_at}
use Rattle.desk_model.specs.Visit.{stored, asked}
use Rattle.session_commands.specs.declared.command.Command.TheVariants.{Ask}
use Rattle.session_commands.specs.declared.refusal.Refusal.{Refusal}
use Rattle.session_model.specs.declared.act.Act.TheVariants as act
use Rattle.session_model.specs.declared.act.How.TheVariants as how
use Rattle.session_model.specs.declared.place.Place.TheVariants.{Priced}
use Rattle.session_model.specs.Pricing.{asking}
use Rattle.session_model.specs.Resolve.{find, with_found, resolve}
use Rattle.session_model.specs.Standing.{Standing}
use Rattle.session_model.specs.Turn.{step, effect_of, done_as, turn}
use Rattle.session_core.specs.Pricing.{Prices}
use Rattle.session_core.specs.Values.{value_found, value_of}
use Rattle.pricing_session.specs.declared.answer.Worth.{Worth}
use Rattle.pricing_session.specs.declared.fault.PriceFault.{PriceFault}
use Rattle.pricing_session.specs.declared.fault.PriceFault.TheVariants as price
use Rattle.pricing_session.specs.Asking.{IsAsked, IsAnswered, AnswersPrice, price_in}
use Rattle.pricing_session.specs.Worth.{worth_in}

-- the session after an ask of o
abbrev pub after_ask : Calc → ℕ → Standing → Standing
after_ask calc o p = record p { state = asked calc o p.state }

found_then : (calc : Calc) (name o : ℕ) (p : Standing) → find Priced (after_ask calc o p) name ≡ find Priced p name
unfolding find asked stored
found_then calc name o p = refl

pub value_then : (calc : Calc) (name o : ℕ) (old new : Standing) → find Priced old name ≡ Ok o → new ≡ after_ask calc o old
    → value_of new name ≡ (kept_at new.state o).last
value_then calc name o old new found next =
    ap (value_found new) (ap (λ (p : Standing). find Priced p name) next ∙ found_then calc name o old ∙ found)

pub ask_turn : (calc : Calc) (name o : ℕ) (old new : Standing) → find Priced old name ≡ Ok o → new ≡ after_ask calc o old
    → new ≡ (turn calc old (Ask name)).next
unfolding turn resolve effect_of step with_found
ask_turn calc name o old new found next =
    next ∙ sym (ap (λ (r : Result ℕ Refusal). (done_as calc old (Ask name) (with_found r (λ x. Ok (act.Price name x how.Ask)))).next) found)

module _ (calc : Calc) (name : ℕ) (old new : Standing) (answer : Asked) (count_old count_new : ℕ)
    (log_old log_new : Option (List (ℕ × Bool))) where
  pub is_asked : (o : ℕ) → find Priced old name ≡ Ok o
      → Prices (asking calc o old.state) o old new answer count_old count_new log_old log_new
      → IsAsked calc name old new answer count_old count_new log_old log_new
  is_asked o found prices = record {
    object = o;
    found = found;
    prices = prices;
    value = value_then calc name o old new found prices.next;
  }

  -- a price is no refusal of the name, nor want of memory
  no_refusal : (outcome : Outcome) (refusal : Refusal) → Err (price.Refused refusal) ≡ price_in outcome → ⊥
  no_refusal (Ok (Money amount)) refusal is = cc
  no_refusal (Ok (Curve curve)) refusal is = cc
  no_refusal (Err cause) refusal is = cc

  no_want : (outcome : Outcome) → Err price.NoMemory ≡ price_in outcome → ⊥
  no_want (Ok (Money amount)) is = cc
  no_want (Ok (Curve curve)) is = cc
  no_want (Err cause) is = cc

  -- what the answer shows decides the price
  pub is_priced : IsAsked calc name old new answer count_old count_new log_old log_new → (result : Result ℤ PriceFault)
      → ((outcome : Outcome) → Shows answer.cause (value_of new name) outcome → result ≡ price_in outcome)
      → AnswersPrice calc name old new result count_old count_new log_old log_new
  is_priced was result gives = by_result result (gives outcome shows)
    where
      outcome : Outcome
      outcome = (asking calc was.object old.state).outcome

      shows : Shows answer.cause (value_of new name) outcome
      shows = subst (λ (v : Option Value). Shows answer.cause v outcome) (sym was.value) was.prices.shown

      by_result : (r : Result ℤ PriceFault) → r ≡ price_in outcome
          → AnswersPrice calc name old new r count_old count_new log_old log_new
      by_result (Ok amount) is = record { answer = answer; asked = was; price = is }
      by_result (Err (price.Refused refusal)) is = absurd (no_refusal outcome refusal is)
      by_result (Err (price.Unpriced cause)) is = record { answer = answer; asked = was; price = is }
      by_result (Err price.NotMoney) is = record { answer = answer; asked = was; price = is }
      by_result (Err price.NoMemory) is = absurd (no_want outcome is)

  -- what it shows is the worth
  pub is_answered : (was : IsAsked calc name old new answer count_old count_new log_old log_new) (worth : Result Worth Cause)
      → ((outcome : Outcome) → Shows answer.cause (value_of new name) outcome → worth ≡ worth_in outcome)
      → IsAnswered calc name old new (record { worth = worth; mark = answer.mark; runs = answer.runs }) count_old count_new log_old log_new
  is_answered was worth shows = record {
    cause = answer.cause;
    asked = was;
    worth = shows (asking calc was.object old.state).outcome
        (subst (λ (v : Option Value). Shows answer.cause v (asking calc was.object old.state).outcome) (sym was.value) was.prices.shown);
  }
