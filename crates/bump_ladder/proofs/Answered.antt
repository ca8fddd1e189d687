-- What one ask of an instrument gives, and what it leaves.
use Rattle.std.proofs.Common.{◌≡◌, ℕ, Option, Some, None, Result, Err, sym, ◌∙◌, ap, subst, arith, Ok}
use Rattle.std.specs.Prelude.{IfSome}
use Rattle.std.proofs.lemmas.Int.{ints}
use Rattle.desk_terms.specs.declared.asked.Asked.{Asked}
use Rattle.desk_terms.specs.declared.value.Value.{Value}
use Rattle.desk_terms.specs.declared.value.Value.TheVariants.{Money, Curve}
use Rattle.desk_terms.specs.declared.kind.Kind.{Kind}
use Rattle.desk_terms.specs.declared.kind.Kind.TheVariants as kind
use Rattle.desk_terms.specs.declared.terms.Terms.{Terms}
use Rattle.desk_terms.specs.Terms.{kind_of}
use Rattle.desk_terms.specs.Asked.{Shows}
use Rattle.desk_terms.specs.Reading.{Calc, IsValueOf}
use Rattle.desk_model.specs.Links.{IsValued}
use Rattle.desk_model.specs.Fresh.{fresh}
use Rattle.desk_model.specs.Market.{terms_at}
use Rattle.desk_model.specs.State.{State, kept_at}
use Rattle.desk_model.specs.Unheld.{HoldsNothing}
use Rattle.desk_model.proofs.Unheld.{others_hold_nothing, unheld_afresh}
use Rattle.ask_walk.specs.Asks as asks
use Rattle.ask_walk.specs.Asks.{Stops}
use Rattle.bump_model.specs.Sides.{IsPaid}
use Rattle.bump_model.specs.Asking.{Asking, Asks, MadeFront, ask_of}
use Rattle.bump_model.proofs.Calls.{Log, Did, front_all}
use Rattle.bump_model.proofs.Asking.{stored_market, stored_unheld, asked_market}

-- whatever comes behind asks that were answered
pub asks_any : {A E : Type 0} (asking : Asking) (result : Result A E) (t : State) (count now : ℕ) (log log_now : Log)
    → Did asking t count now log log_now → Asks asking result t count now log log_now
asks_any asking (Ok x) t count now log log_now did = did
asks_any asking (Err e) t count now log log_now did = front_all asking.calls count now log log_now did.1

-- a step that failed, by its front
pub front_asks : {A E : Type 0} (asking : Asking) (result : Result A E) (t : State) (count now : ℕ) (log log_now : Log)
    (fault : E) → result ≡ Err fault → MadeFront asking.calls count now log log_now
    → Asks asking result t count now log log_now
front_asks asking result t count now log log_now fault is made = rw is made

-- an ask that was answered, in a state that holds nothing back
module _ {calc : Calc} {o : ℕ} {s t : State} {answer : Asked} {count now : ℕ} {log log_now : Log} (does : asks.Asks calc o s t answer count now log log_now) where
  pub answered_asks : Did (ask_of calc o s) t count now log log_now
  answered_asks = (does.state, record { count = does.count; log = does.log })

  pub answered_market : t.market ≡ s.market
  answered_market = ap (λ (u : State). u.market) does.state ∙ asked_market calc o s

  pub answered_unheld : HoldsNothing s → HoldsNothing t
  answered_unheld free = subst HoldsNothing (sym does.state) ((others_hold_nothing s free).ask calc o)

  -- what is shown is the price afresh
  pub answered_shown : HoldsNothing s → (last : Option Value) → last ≡ (kept_at t o).last
      → Shows answer.cause last (fresh calc s.market o)
  answered_shown free last is =
      subst (λ (l : Option Value). Shows answer.cause l (fresh calc s.market o)) (sym is)
      (subst (Shows answer.cause (kept_at t o).last) (unheld_afresh s free calc o).value does.shown)

-- an ask for which memory ran out
module _ {calc : Calc} {o : ℕ} {s t : State} {count now : ℕ} {log log_now : Log} (stops : Stops calc o s t count now log log_now) where
  pub stopped_asks : {A E : Type 0} (result : Result A E) (fault : E) → result ≡ Err fault
      → Asks (ask_of calc o s) result t count now log log_now
  stopped_asks result fault is = front_asks (ask_of calc o s) result t count now log log_now fault is record {
    front = stops.front;
    rest = stops.rest;
    whole = stops.whole;
    count = stops.count;
    log = stops.log;
  }

  pub stopped_market : t.market ≡ s.market
  stopped_market = ap (λ (u : State). u.market) stops.state ∙ stored_market s stops.front

  pub stopped_unheld : HoldsNothing s → HoldsNothing t
  stopped_unheld free = subst HoldsNothing (sym stops.state) (stored_unheld s stops.front free)

-- ---- the last value of an object is money within its limit, or no money

kind_paid : (k : Kind) (o : ℕ) (value : Value) → IsValueOf k o value → IsPaid value
kind_paid k o (Curve curve) is = tt
kind_paid kind.Today o (Money amount) is = absurd is
kind_paid kind.Quote o (Money amount) is = absurd is
kind_paid kind.Derived o (Money amount) is = absurd is
kind_paid kind.QuoteHandle o (Money amount) is = absurd is
kind_paid kind.CurveHandle o (Money amount) is = absurd is
kind_paid kind.Index o (Money amount) is = absurd is
kind_paid kind.Engine o (Money amount) is = absurd is
kind_paid kind.Curve o (Money amount) is = absurd is
kind_paid kind.Implied o (Money amount) is = absurd is
kind_paid kind.Stock o (Money amount) is = let low = is.0 in let high = is.1 in omega (arith, ints, low, high)
kind_paid kind.Composite o (Money amount) is = let low = is.0 in let high = is.1 in omega (arith, ints, low, high)
kind_paid kind.Flows o (Money amount) is = let low = is.0 in let high = is.1 in omega (arith, ints, low, high)
kind_paid kind.Watcher o (Money amount) is = absurd is

terms_paid : (terms : Option Terms) (o : ℕ) (value : Value) → IsValued terms o value → IsPaid value
terms_paid None o value is = absurd is
terms_paid (Some terms) o value is = kind_paid (kind_of terms) o value is

pub last_paid : (last : Option Value) (s : State) (o : ℕ) → last ≡ (kept_at s o).last
    → ((value : Value) → (kept_at s o).last ≡ Some value → IsValued (terms_at s.market o) o value) → IfSome last IsPaid
last_paid None s o is valued = tt
last_paid (Some value) s o is valued = terms_paid (terms_at s.market o) o value (valued value (sym is))
