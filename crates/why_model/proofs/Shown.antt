-- What a priced object shows that is neither frozen nor late, and what that needs.
use Rattle.std.proofs.Common.{◌≡◌, ℕ, Bool, true, false, List, [], Option, Some, None, Result, Ok, Err, refl, sym, ◌∙◌, ap, subst}
use Rattle.std.specs.Prelude.{◌||◌, ◌&&◌, ◌==◌, if◌then◌else◌}
use Rattle.walks.specs.Walk.{Among, Below}
use Rattle.walks.specs.Walk.Below.{next, beyond}
use Rattle.desk_terms.specs.declared.terms.Terms.{Terms}
use Rattle.desk_terms.specs.declared.value.Input as input
use Rattle.desk_terms.specs.declared.value.Value.{Value}
use Rattle.desk_terms.specs.declared.cause.Cause.{Cause}
use Rattle.desk_terms.specs.Kind.{Role}
use Rattle.desk_terms.specs.Kind.Role.{Source, Forwarder, Lazy, Watching}
use Rattle.desk_terms.specs.Reading.{Calc}
use Rattle.desk_model.specs.Market.{edges, role_of, terms_at, is_lazy, is_forwarding, is_forwarder}
use Rattle.desk_model.specs.Uses.{uses, needs, reading_at}
use Rattle.desk_model.specs.Fresh.{inputs_by, reading_over, priced, priced_by}
use Rattle.desk_model.specs.State.{State, is_frozen, is_late, last_answer, held_outcome, seen_outcome, now, shows}
use Rattle.desk_model.specs.Links.{IsLinked, is_lazy_at}
use Rattle.desk_model.proofs.Bounds.{same_price}
use Rattle.desk_model.proofs.Clear.{shows_seen}
use Rattle.desk_model.proofs.Locality.{Near, needs_near}
use Rattle.desk_model.proofs.Shown.{seen_free}
use Rattle.why_model.specs.Listing.{shows_last, rests_on}

second : (a b : Bool) → (a && b) ≡ false → a ≡ true → b ≡ false
second true b none is = none
second false b none is = absurd (cc)

-- it answers by its price
pub free_of : (s : State) (o : ℕ) → is_lazy_at s.market o ≡ true → shows_last s o ≡ false → held_outcome s o ≡ None
unfolding held_outcome
free_of s o lazy free =
    ap (λ (b : Bool). if b then Some (last_answer s o) else None)
    (second (is_lazy_at s.market o) (is_frozen s o || is_late s o) free lazy)

pub shown_worked : (calc : Calc) (s : State) → IsLinked s.market → (o : ℕ) → is_lazy_at s.market o ≡ true
    → shows_last s o ≡ false → shows calc s o ≡ priced_by calc s.market (shows calc s) o
unfolding now
shown_worked calc s links o lazy free =
    shows_seen s links calc o ∙ seen_free calc s links o (free_of s o lazy free)
    ∙ same_price calc s.market (seen_outcome calc s) (shows calc s) o (λ x among. sym (shows_seen s links calc x))

-- the inputs of the price of an object that shows a value are there
pub record HasInputs (calc : Calc) (s : State) (o : ℕ) (terms : Terms) (value : Value) : Type 0 where
  pub inputs : List input.Input
  pub given : inputs_by (shows calc s) (uses s.market o) ≡ Ok inputs
  pub price : calc (reading_at s.market o terms inputs) ≡ Ok value

has_inputs : (calc : Calc) (s : State) (o : ℕ) (terms : Terms) (value : Value) (r : Result (List input.Input) Cause)
    → inputs_by (shows calc s) (uses s.market o) ≡ r
    → priced calc (reading_over s.market o (Some terms) r) ≡ Ok value → HasInputs calc s o terms value
has_inputs calc s o terms value (Ok inputs) given price = record { inputs = inputs; given = given; price = price }
has_inputs calc s o terms value (Err cause) given price = absurd (cc)

pub inputs_of_shown : (calc : Calc) (s : State) → IsLinked s.market → (o : ℕ) (terms : Terms) (value : Value)
    → terms_at s.market o ≡ Some terms → is_lazy (role_of (Some terms)) ≡ true → shows_last s o ≡ false
    → shows calc s o ≡ Ok value → HasInputs calc s o terms value
inputs_of_shown calc s links o terms value are lazy free shown =
    let kind : is_lazy_at s.market o ≡ true = ap (λ (t : Option Terms). is_lazy (role_of t)) are ∙ lazy in
    let price : priced_by calc s.market (shows calc s) o ≡ Ok value = sym (shown_worked calc s links o kind free) ∙ shown in
    has_inputs calc s o terms value (inputs_by (shows calc s) (uses s.market o)) refl
    (ap (λ (t : Option Terms). priced calc (reading_over s.market o t (inputs_by (shows calc s) (uses s.market o)))) (sym are) ∙ price)

-- a forwarder is not priced
passing : (r : Role) → is_forwarding r ≡ true → is_lazy r ≡ false
passing Source is = refl
passing Forwarder is = refl
passing Lazy is = absurd (cc)
passing Watching is = refl

forwarder_free : (s : State) (x : ℕ) → is_forwarder s.market x ≡ true → shows_last s x ≡ false
forwarder_free s x is =
    ap (λ (b : Bool). b && (is_frozen s x || is_late s x)) (passing (role_of (terms_at s.market x)) is)

rests_edges : (s : State) (x : ℕ) → shows_last s x ≡ false → edges s.market x ≡ rests_on s x
rests_edges s x free = sym (ap (λ (b : Bool). if b then [] else edges s.market x) free)

-- what an object needs lies beneath it, behind objects that pass on what others give
pub near_rests : (s : State) (y x : ℕ) → Near s.market y x → shows_last s x ≡ false
    → Below (rests_on s) (λ z. z == y) (λ z. true) x
near_rests s y x (next {x = z} among here) free =
    next {x = z} (subst (λ (zs : List ℕ). Among z zs) (rests_edges s x free) among) here
near_rests s y x (beyond {x = z} among passes below) free =
    beyond {x = z} (subst (λ (zs : List ℕ). Among z zs) (rests_edges s x free) among) refl
    (near_rests s y z below (forwarder_free s z passes))

pub needs_rest : (s : State) (x y : ℕ) → Among y (needs s.market x) → shows_last s x ≡ false
    → Below (rests_on s) (λ z. z == y) (λ z. true) x
needs_rest s x y among free = near_rests s y x (needs_near s.market x y among) free
