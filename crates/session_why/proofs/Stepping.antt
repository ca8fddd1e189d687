-- The products of flows from a place on.
use Rattle.std.proofs.Common.{◌≡◌, inl, inr, ℕ, ◌+◌, ◌<◌, ◌≤◌, true, false, List, [], ◌∷◌, ◌++◌, length, get_or, drop}
use Rattle.std.proofs.Common.{Some, None, Ok, Err, sym, subst, arith}
use Rattle.std.proofs.lemmas.Bool.{cases_Bool}
use Rattle.std.proofs.lemmas.List.{drop_all, length_push}
use Rattle.desk_terms.specs.declared.cause.Cause.{Cause}
use Rattle.flow_terms.specs.declared.flows.FlowTerm.{FlowTerm}
use Rattle.cash_flow_legs.specs.declared.live_flows.Flow.{Flow}
use Rattle.cash_flow_legs.specs.Live.{is_live}
use Rattle.why_model.specs.Workings.{FlowProduct}
use Rattle.session_why.specs.declared.products.Over.{Over}
use Rattle.session_why.specs.Over.{found, product_over, products_over}
use Rattle.session_why.proofs.Pieces.{next_at}
use Rattle.session_why.proofs.Worked.{Worked, worked_past, worked_next, worked_refused, worked_all, worked_some}

module _ (over : Over) (terms : List FlowTerm) (next : ℕ) (list : List Flow) (at : ℕ) (products : List FlowProduct)
    (w : Worked over (drop next terms) (drop at list) products) where
  pub all_done : length terms ≤ next → Some products ≡ found (products_over over)
  all_done past =
      sym (worked_all over (drop at list) products
      (subst (λ (l : List FlowTerm). Worked over l (drop at list) products) (drop_all next terms past) w))

  module _ (term : FlowTerm) (within : next < length terms) (is : term ≡ get_or terms next term) where
    first : Worked over (term ∷ drop (next + 1) terms) (drop at list) products
    first = subst (λ (l : List FlowTerm). Worked over l (drop at list) products) (next_at terms next term within is) w

    -- a flow that is not to be paid any more
    pub step_past : is_live over.today over.discount.now.reference term ≡ false
        → Worked over (drop (next + 1) terms) (drop at list) products
    step_past other = worked_past over term (drop (next + 1) terms) (drop at list) products other first

    -- no amounts are left: so it is none
    pub step_none : length list ≤ at → Worked over (drop (next + 1) terms) (drop at list) products
    step_none past = elim (cases_Bool (is_live over.today over.discount.now.reference term)) [
      | inl live ↦
          absurd (worked_some over term (drop (next + 1) terms) products live
          (subst (λ (l : List Flow). Worked over (term ∷ drop (next + 1) terms) l products) (drop_all at list past)
          first))
      | inr other ↦ step_past other
    ]

    module _ (flow : Flow) (inside : at < length list) (there : flow ≡ get_or list at flow)
        (live : is_live over.today over.discount.now.reference term ≡ true) where
      both : Worked over (term ∷ drop (next + 1) terms) (flow ∷ drop (at + 1) list) products
      both =
          subst (λ (l : List Flow). Worked over (term ∷ drop (next + 1) terms) l products)
          (next_at list at flow inside there) first

      pub step_next : (x : FlowProduct) → Ok x ≡ product_over over term flow.amount
          → Worked over (drop (next + 1) terms) (drop (at + 1) list) (products ++ x ∷ [])
      step_next x is =
          worked_next over term (drop (next + 1) terms) flow (drop (at + 1) list) products live both x (sym is)

      pub step_refused : (cause : Cause) → Err cause ≡ product_over over term flow.amount
          → None ≡ found (products_over over)
      step_refused cause is =
          sym (worked_refused over term (drop (next + 1) terms) flow (drop (at + 1) list) products live both cause
          (sym is))

-- ---- with their counts

-- the products of the flows before a place are there, and the amounts of the others are left
pub record IsStepped (over : Over) (list : List Flow) (next place : ℕ) (products : List FlowProduct) : Type 0 where
  pub worked : Worked over (drop next over.terms.now.flows) (drop place list) products
  pub count : length products ≤ next
  pub at : place ≤ length list

module _ (over : Over) (list : List Flow) (next place : ℕ) (products : List FlowProduct)
    (s : IsStepped over list next place products)
    (term : FlowTerm) (within : next < length over.terms.now.flows) (is : term ≡ get_or over.terms.now.flows next term)
  where
    pub stepped_past : is_live over.today over.discount.now.reference term ≡ false
        → IsStepped over list (next + 1) place products
    stepped_past other =
        let count = s.count in
        record {
          worked = step_past over over.terms.now.flows next list place products s.worked term within is other;
          count = omega (arith, count);
          at = s.at;
        }

    pub stepped_none : length list ≤ place → IsStepped over list (next + 1) place products
    stepped_none past =
        let count = s.count in
        record {
          worked = step_none over over.terms.now.flows next list place products s.worked term within is past;
          count = omega (arith, count);
          at = s.at;
        }

    pub stepped_next : (flow : Flow) (inside : place < length list) (there : flow ≡ get_or list place flow)
        → is_live over.today over.discount.now.reference term ≡ true → (x : FlowProduct)
        → Ok x ≡ product_over over term flow.amount
        → (more : List FlowProduct) → more ≡ products ++ x ∷ [] → IsStepped over list (next + 1) (place + 1) more
    stepped_next flow inside there live x found more are =
        let w =
        step_next over over.terms.now.flows next list place products s.worked term within is flow inside there live x
        found in
        let count = s.count in
        let long = length_push products x in
        record {
          worked =
              subst (λ (l : List FlowProduct). Worked over (drop (next + 1) over.terms.now.flows)
              (drop (place + 1) list)
              l) (sym are) w;
          count = subst (λ (l : List FlowProduct). length l ≤ next + 1) (sym are) (omega (arith, count, long));
          at = omega (arith, inside);
        }
