-- The loop of an ask: what each step leaves of what is still to be finished.
use Rattle.std.proofs.Common.{◌≡◌, ℕ, suc, ◌<◌, Bool, false, List, [], ◌∷◌, ◌++◌, length, Result, Ok, Err, refl, sym, ◌∙◌, ap, subst, arith}
use Rattle.std.specs.Prelude.{◌||◌, is_some}
use Rattle.desk_terms.specs.declared.value.Value.{Value}
use Rattle.desk_terms.specs.declared.value.Input as input
use Rattle.desk_terms.specs.declared.cause.Cause.{Cause}
use Rattle.desk_terms.specs.Reading.{Outcome, Calc}
use Rattle.desk_model.specs.Market.{terms_at}
use Rattle.desk_model.specs.Uses.{uses}
use Rattle.desk_model.specs.Fresh.{reading_over, priced}
use Rattle.desk_model.specs.State.{State, kept_at, held_outcome, seen_outcome, now}
use Rattle.desk_model.specs.Links.{IsLinked}
use Rattle.desk_model.specs.Visit.{Visit, Walk, has_value, after_visit, settle_all, settle_walk, is_idle, visit_by}
use Rattle.desk_model.specs.Next.{next_of}
use Rattle.desk_model.specs.declared.entry.Next.TheVariants.{Ready, First, Stops}
use Rattle.desk_model.proofs.Locality.{needs_fall}
use Rattle.desk_model.proofs.Bounds.{ranks_of}
use Rattle.desk_model.proofs.Visits.{IsClosed, idle_grows, visit_outcome, visit_goes, visit_steps}
use Rattle.desk_model.proofs.Steps.{then_on, finish, busy_visit, Answers, walk_first, walk_ready, walk_stops, first_busy, visit_low}

-- an ask has all of it to finish
pub finish_all : (calc : Calc) (s : State) → IsLinked s.market → (o : ℕ)
    → finish calc s o (o ∷ []) [] ≡ visit_by calc s (suc (length s.market.objects)) [] o
unfolding finish
finish_all calc s links o = by_outcome (visit_by calc s (suc (length s.market.objects)) [] o) (visit_outcome calc s links (suc (length s.market.objects)) [] o)
  where
    pack : (v : Visit) (r : Outcome) → v.outcome ≡ r → seen_outcome calc s o ≡ r
        → then_on v.calls r (λ later. record { calls = later; outcome = seen_outcome calc s o }) ≡ record { calls = v.calls; outcome = r }
    pack v (Ok value) e e2 = ap (λ (r : Outcome). record { calls = v.calls; outcome = r }) e2
    pack v (Err cause) e e2 = refl

    by_outcome : (v : Visit) → v.outcome ≡ seen_outcome calc s o
        → then_on v.calls v.outcome (λ later. record { calls = later; outcome = seen_outcome calc s o }) ≡ v
    by_outcome v e = pack v v.outcome refl (sym e)

module _ (calc : Calc) (s : State) (links : IsLinked s.market) where
  module _ (calls : List (ℕ × Outcome)) (closed : IsClosed calc s calls) (answer : ℕ → Outcome) (o x : ℕ) (xs : List ℕ) (busy : is_idle s calls x ≡ false) (answers : Answers calc s (length s.market.objects) calls answer (uses s.market x)) where
    -- PUSH: an object that is needed and not idle is finished first
    pub finish_push : (y : ℕ) → next_of (is_idle s calls) answer (uses s.market x) ≡ First y
        → finish calc s o (y ∷ x ∷ xs) calls ≡ finish calc s o (x ∷ xs) calls
    unfolding finish
    finish_push y first =
        let r = ranks_of s.market links in
        let L = length s.market.objects in
        let b = first_busy calc s L calls answer y (uses s.market x) first in
        let fall = needs_fall s.market r.0 r.1 x y b.1 in
        let small = r.2 x in
        let low : r.0 y < L = omega arith in
        let g = visit_goes calc s links L y low calls closed in
        let same : visit_by calc s (suc L) calls y ≡ visit_by calc s L calls y = visit_steps calc s r.0 r.1 (suc L) L y (omega arith) low calls in
        let walk = walk_first calc s L calls answer y (uses s.market x) answers first (λ value e. ((λ z idle. idle_grows s calls (visit_by calc s L calls y).calls z g.grows idle), g.idle value e, sym (visit_outcome calc s links L calls y) ∙ e)) in
        let high = visit_low calc s r.0 r.1 x L y fall calls in
        ap (λ (v : Visit). then_on v.calls v.outcome (finish calc s o (x ∷ xs))) same
        ∙ by_outcome (visit_by calc s L calls y) (visit_by calc s L calls y).outcome (still_busy (visit_by calc s L calls y).calls high)
        ∙ ap (λ (w : Walk). then_on (settle_walk (now calc s x) x w).calls (settle_walk (now calc s x) x w).outcome (finish calc s o xs)) (sym walk)
        ∙ ap (λ (v : Visit). then_on v.calls v.outcome (finish calc s o xs)) (sym (busy_visit calc s L calls x busy))
      where
        still_busy : (later : List (ℕ × Outcome)) → has_value later x ≡ has_value calls x → is_idle s later x ≡ false
        still_busy later same = ap (λ (b : Bool). is_some (held_outcome s x) || ((kept_at s x).current || b)) same ∙ busy

        by_outcome : (v : Visit) (r : Outcome) → is_idle s v.calls x ≡ false
            → then_on v.calls r (finish calc s o (x ∷ xs))
            ≡ then_on (settle_walk (now calc s x) x (after_visit v.calls r (λ later. settle_all (visit_by calc s (length s.market.objects)) later (uses s.market x)))).calls
            (settle_walk (now calc s x) x (after_visit v.calls r (λ later. settle_all (visit_by calc s (length s.market.objects)) later (uses s.market x)))).outcome (finish calc s o xs)
        by_outcome v (Ok value) busy_then = ap (λ (w : Visit). then_on w.calls w.outcome (finish calc s o xs)) (busy_visit calc s (length s.market.objects) v.calls x busy_then)
        by_outcome v (Err cause) busy_then = refl

    -- PRICE: with all inputs at hand it is computed
    pub visit_price : (inputs : List input.Input) → next_of (is_idle s calls) answer (uses s.market x) ≡ Ready inputs
        → (visit_by calc s (suc (length s.market.objects)) calls x ≡ record { calls = calls ++ (x, now calc s x) ∷ []; outcome = now calc s x })
        × (now calc s x ≡ priced calc (reading_over s.market x (terms_at s.market x) (Ok inputs)))
    unfolding now
    visit_price inputs ready =
        let w = walk_ready calc s (length s.market.objects) calls answer inputs (uses s.market x) answers ready in
        (busy_visit calc s (length s.market.objects) calls x busy ∙ ap (settle_walk (now calc s x) x) w.0, ap (λ (r : Result (List input.Input) Cause). priced calc (reading_over s.market x (terms_at s.market x) r)) w.1)

    pub finish_value : (inputs : List input.Input) (value : Value)
        → next_of (is_idle s calls) answer (uses s.market x) ≡ Ready inputs
        → priced calc (reading_over s.market x (terms_at s.market x) (Ok inputs)) ≡ Ok value
        → (finish calc s o (x ∷ xs) calls ≡ finish calc s o xs (calls ++ (x, Ok value) ∷ []))
        × IsClosed calc s (calls ++ (x, Ok value) ∷ []) × (seen_outcome calc s x ≡ Ok value)
    unfolding finish
    finish_value inputs value ready is =
        let p = visit_price inputs ready in
        let outcome : now calc s x ≡ Ok value = p.1 ∙ is in
        let visit : visit_by calc s (suc (length s.market.objects)) calls x ≡ record { calls = calls ++ (x, Ok value) ∷ []; outcome = Ok value } = p.0 ∙ ap (λ (r : Outcome). record { calls = calls ++ (x, r) ∷ []; outcome = r }) outcome in (
          ap (λ (v : Visit). then_on v.calls v.outcome (finish calc s o xs)) visit,
          subst (λ (v : Visit). IsClosed calc s v.calls) visit (visit_goes calc s links (suc (length s.market.objects)) x ((ranks_of s.market links).2 x) calls closed).closed,
          sym (visit_outcome calc s links (suc (length s.market.objects)) calls x)
              ∙ ap (λ (v : Visit). v.outcome) visit,
        )

    pub finish_fault : (inputs : List input.Input) (cause : Cause)
        → next_of (is_idle s calls) answer (uses s.market x) ≡ Ready inputs
        → priced calc (reading_over s.market x (terms_at s.market x) (Ok inputs)) ≡ Err cause
        → finish calc s o (x ∷ xs) calls ≡ record { calls = calls ++ (x, Err cause) ∷ []; outcome = Err cause }
    unfolding finish
    finish_fault inputs cause ready is =
        let p = visit_price inputs ready in
        ap (λ (v : Visit). then_on v.calls v.outcome (finish calc s o xs)) (p.0 ∙ ap (λ (r : Outcome). record { calls = calls ++ (x, r) ∷ []; outcome = r }) (p.1 ∙ is))

    -- STOP: an entry refuses
    pub finish_stop : (cause : Cause) → next_of (is_idle s calls) answer (uses s.market x) ≡ Stops cause
        → finish calc s o (x ∷ xs) calls ≡ record { calls = calls; outcome = Err cause }
    unfolding finish
    finish_stop cause stops =
        ap (λ (v : Visit). then_on v.calls v.outcome (finish calc s o xs)) (busy_visit calc s (length s.market.objects) calls x busy ∙ ap (settle_walk (now calc s x) x) (walk_stops calc s (length s.market.objects) calls answer cause (uses s.market x) answers stops))
