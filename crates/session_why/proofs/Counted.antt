-- What is computed while an answer is written.
use Rattle.std.proofs.Common.{◌≡◌, ◌≢◌, inl, inr, ℕ, zero, suc, ◌+◌, ◌<◌, ◌≤◌, Bool, List, [], ◌∷◌, ◌++◌, length}
use Rattle.std.proofs.Common.{Option, Result, Ok, Err, refl, sym, ◌∙◌, ap, subst, arith}
use Rattle.std.specs.Prelude.{take, drop, is_ok, IfOk, OnErr, IsOk}
use Rattle.std.proofs.lemmas.Bool.{cases_eq}
use Rattle.std.proofs.lemmas.List.{length-take, length-drop, take-append-drop}
use Rattle.desk_terms.specs.declared.asked.Asked.{Asked}
use Rattle.desk_terms.specs.Bench.{counted, logged}
use Rattle.desk_terms.specs.Reading.{Calc, Outcome}
use Rattle.desk_model.specs.State.{State}
use Rattle.desk_model.specs.Visit.{log_of, runs}
use Rattle.session_model.specs.Standing.{Standing}
use Rattle.session_model.specs.Pricing.{asking}
use Rattle.session_core.specs.Pricing.{Prices, StopsShort}
use Rattle.bump_model.specs.Asking.{Asking, Asks, Made, MadeFront, none, ask_of, then_ask}
use Rattle.bump_model.proofs.Asking.{asked_market, stored_market}
use Rattle.bump_model.proofs.Calls.{made_none, made_more, front_more, front_none, Progress}
use Rattle.bump_model.proofs.Calls.{progress_more, progress_front, last_next, last_made}
use Rattle.session_why.specs.Computed.{IsAsked, ask_if, ask_each}

abbrev pub Log : Type 0
Log = Option (List (ℕ × Bool))

log_take : (n : ℕ) (calls : List (ℕ × Outcome)) → take n (log_of calls) ≡ log_of (take n calls)
log_take zero calls = refl
log_take (suc n) [] = refl
log_take (suc n) (call ∷ calls) = ap (λ (l : List (ℕ × Bool)). (call.0, is_ok call.1) ∷ l) (log_take n calls)

some_left : (n : ℕ) (calls : List (ℕ × Outcome)) → n < length calls → drop n calls ≢ []
some_left n calls more none =
    let e = ap length none in let d = length-drop n calls in omega (arith, more, d, e)

-- memory ran out in an ask
stops_front : (calc : Calc) (o : ℕ) (s : State) (old new : Standing) (count now : ℕ) (log log_now : Log)
    → StopsShort (asking calc o s) old new count now log log_now → MadeFront (runs calc s o) count now log log_now
stops_front calc o s old new count now log log_now stops =
    let calls : List (ℕ × Outcome) = runs calc s o in
    let short : stops.ended ≤ length calls = omega (arith, stops.last.0, stops.most) in
    let long : length (take stops.ended calls) ≡ stops.ended = front_length stops.ended calls short in
    record {
      front = take stops.ended calls;
      rest = drop stops.ended calls;
      whole = sym (take-append-drop stops.ended calls);
      count = elim (cases_eq stops.begun stops.ended) [
        | inl same ↦ inl (stops.count ∙ ap (counted count) (same ∙ sym long))
        | inr other ↦ inr (
          some_left stops.ended calls (omega (arith, stops.last.0, stops.most, other)),
          stops.count ∙ ap (counted count) (omega (arith, stops.last.0, stops.last.1, other, long)),
        )
      ];
      log = stops.log ∙ ap (logged log) (log_take stops.ended calls);
    }
  where
    front_length : (n : ℕ) (calls : List (ℕ × Outcome)) → n ≤ length calls → length (take n calls) ≡ n
    front_length n calls less = let e = length-take n calls in omega (arith, e, less)

-- an ask
pub ask_asks : {E : Type 0}
    → (calc : Calc) (o : ℕ) (old new : Standing) (result : Result Asked E) (count now : ℕ) (log log_now : Log)
    → IfOk result (λ answer. Prices (asking calc o old.state) o old new answer count now log log_now)
    → OnErr result (StopsShort (asking calc o old.state) old new count now log log_now)
    → Asks (ask_of calc o old.state) result new.state count now log log_now
ask_asks calc o old new (Ok answer) count now log log_now prices stops =
    (ap (λ (p : Standing). p.state) prices.next, record { count = prices.count; log = prices.log })
ask_asks calc o old new (Err e) count now log log_now prices stops =
    stops_front calc o old.state old new count now log log_now stops

pub asks_answer : {E : Type 0}
    → (calc : Calc) (o : ℕ) (old new : Standing) (result : Result Asked E) (count now : ℕ) (log log_now : Log)
    → IfOk result (λ answer. Prices (asking calc o old.state) o old new answer count now log log_now)
    → IfOk result (IsAsked calc o old new)
asks_answer calc o old new (Ok answer) count now log log_now prices =
    record { next = prices.next; shown = prices.shown; mark = prices.mark; number = prices.number }
asks_answer calc o old new (Err e) count now log log_now prices = tt

-- the session is the same but for its state, and the market is as it was
pub asks_stay : {E : Type 0}
    → (calc : Calc) (o : ℕ) (old new : Standing) (result : Result Asked E) (count now : ℕ) (log log_now : Log)
    → IfOk result (λ answer. Prices (asking calc o old.state) o old new answer count now log log_now)
    → OnErr result (StopsShort (asking calc o old.state) old new count now log log_now)
    → new.state.market ≡ old.state.market
asks_stay calc o old new (Ok answer) count now log log_now prices stops =
    ap (λ (p : Standing). p.state.market) prices.next ∙ asked_market calc o old.state
asks_stay calc o old new (Err e) count now log log_now prices stops =
    ap (λ (p : Standing). p.state.market) stops.next
    ∙ stored_market old.state (take stops.ended (runs calc old.state o))

-- memory ran out in it
pub asks_failed : {A E : Type 0}
    → (asking : Asking) (result : Result A E) (new : State) (count now : ℕ) (log log_now : Log) (fault : E)
    → result ≡ Err fault → MadeFront asking.calls count now log log_now → Asks asking result new count now log log_now
asks_failed asking result new count now log log_now fault is made = rw is made

-- none was made
pub asks_none : {A E : Type 0} → (s : State) (result : Result A E) (count : ℕ) (log : Log)
    → Asks (none s) result s count count log log
asks_none s (Ok x) count log = (refl, made_none count log)
asks_none s (Err e) count log = front_none [] count log

-- some, and others behind them
pub asks_more : {A B E F : Type 0}
    → (first : Asking) (others : State → Asking) (before : Result A E) (result : Result B F)
    (middle new : State) (count now then : ℕ) (log log_now log_then : Log) → IsOk before
    → Asks first before middle count now log log_now → Asks (others middle) result new now then log_now log_then
    → Asks (then_ask first others) result new count then log log_then
asks_more first others (Err e) result middle new count now then log log_now log_end ok asks more = absurd (cc)
asks_more first others (Ok x) (Ok y) middle new count now then log log_now log_end ok asks more = (
  more.0 ∙ ap (λ (t : State). (others t).next) asks.0,
  subst (λ (t : State). Made (first.calls ++ (others t).calls) count then log log_end) asks.0
      (made_more first.calls (others middle).calls count now then log log_now log_end asks.1 more.1),
)
asks_more first others (Ok x) (Err f) middle new count now then log log_now log_end ok asks more =
    subst (λ (t : State). MadeFront (first.calls ++ (others t).calls) count then log log_end) asks.0
    (front_more first.calls (others middle).calls count now then log log_now log_end asks.1 more)

-- ---- those of a list, one behind another

-- how far they have come
abbrev pub Come : Asking → Asking → ℕ → ℕ → Log → Log → Type 0
Come whole rest count now log log_now = (number : ℕ) × Progress whole rest number count now log log_now

module _ (calc : Calc) (x : ℕ) (all rest : List ℕ) where
  each_steps : (s : State) → all ≡ x ∷ rest → ask_each calc all s ≡ then_ask (ask_if calc x s) (ask_each calc rest)
  unfolding ask_each
  each_steps s are = ap (λ (l : List ℕ). ask_each calc l s) are

  -- the next one was asked for
  pub come_more : (whole : Asking) (s new : State) (count now then : ℕ) (log log_now log_then : Log) → all ≡ x ∷ rest
      → Come whole (ask_each calc all s) count now log log_now → new ≡ (ask_if calc x s).next
      → Made (ask_if calc x s).calls now then log_now log_then
      → Come whole (ask_each calc rest new) count then log log_then
  come_more whole s new count now then log log_now log_end are so_far next made = (
    so_far.0 + length (ask_if calc x s).calls,
    progress_more whole (ask_each calc all s) (ask_if calc x s) (ask_each calc rest) (each_steps s are) so_far.0 count
        now then
        log log_now log_end so_far.1 new next made (length (ask_if calc x s).calls) refl,
  )

  -- memory ran out in it
  pub come_front : (whole : Asking) (s : State) (count now then : ℕ) (log log_now log_then : Log) → all ≡ x ∷ rest
      → Come whole (ask_each calc all s) count now log log_now
      → MadeFront (ask_if calc x s).calls now then log_now log_then
      → MadeFront whole.calls count then log log_then
  come_front whole s count now then log log_now log_end are so_far made =
      progress_front whole (ask_each calc all s) (ask_if calc x s) (ask_each calc rest) (each_steps s are) so_far.0
      count now then
      log log_now log_end so_far.1 made

nothing_left : (calc : Calc) (rest : List ℕ) (s : State) → rest ≡ [] → ask_each calc rest s ≡ none s
unfolding ask_each
nothing_left calc rest s is = ap (λ (l : List ℕ). ask_each calc l s) is

-- all were asked for
pub come_all : (calc : Calc) (whole : Asking) (rest : List ℕ) (s : State) (count now : ℕ) (log log_now : Log)
    → rest ≡ []
    → Come whole (ask_each calc rest s) count now log log_now
    → (s ≡ whole.next) × Made whole.calls count now log log_now
come_all calc whole rest s count now log log_now nil so_far =
    let ended = nothing_left calc rest s nil in (
      sym (last_next whole (ask_each calc rest s) s ended so_far.0 count now log log_now so_far.1),
      last_made whole (ask_each calc rest s) s ended so_far.0 count now log log_now so_far.1,
    )
