-- The products of flows, found or refused.
use Rattle.std.proofs.Common.{◌≡◌, ℕ, ℤ, List, [], ◌∷◌, Some, None, Result, Ok, Err, refl, ap, subst}
use Rattle.std.specs.Prelude.{option_copied}
use Rattle.std.specs.List.{filter}
use Rattle.desk_terms.specs.declared.cause.Cause.{Cause}
use Rattle.flow_terms.specs.declared.flows.FlowTerm.{FlowTerm}
use Rattle.flow_terms.specs.Flows.{paid_on, fixed_on}
use Rattle.cash_flow_legs.specs.declared.live_flows.Flow.{Flow}
use Rattle.cash_flow_legs.specs.Amount.{views_of}
use Rattle.cash_flow_legs.specs.declared.faults.FlowFault.{FlowFault}
use Rattle.cash_flow_legs.specs.declared.faults.FlowFault.TheVariants.{Refused}
use Rattle.cash_flow_legs.specs.Live.{flow_or_cause, live_flows, with_amounts, Gives}
use Rattle.discount_engines.specs.Worth.{factor_on}
use Rattle.why_model.specs.Workings.{FlowProduct, fixing_by, rate_by, flow_of, before, each_flow}
use Rattle.why_model.specs.Answer.{sum_text}
use Rattle.session_why.specs.declared.products.Over.{Over}
use Rattle.session_why.specs.Over.{found, products_over}
use Rattle.session_why.proofs.Worked.{amount, live, product}

none_before : (x : Result FlowProduct Cause) (r : Result (List FlowProduct) Cause) → found r ≡ None
    → found (before x r) ≡ None
none_before (Err cause) r none = refl
none_before (Ok flow) (Ok flows) none = absurd (cc)
none_before (Ok flow) (Err cause) none = refl

module _ (over : Over) where
  by_first : (term : FlowTerm) (terms : List FlowTerm) (a : Result ℤ Cause) (r : Result (List Flow) Cause)
      (cause : Cause)
      → amount over term ≡ a → with_amounts (amount over) terms ≡ r → flow_or_cause (paid_on term) a r ≡ Err cause
      → ((c : Cause) → with_amounts (amount over) terms ≡ Err c → found (each_flow (product over) terms) ≡ None)
      → found (before (product over term) (each_flow (product over) terms)) ≡ None
  by_first term terms (Err c) r cause is are both more =
      ap (λ (a : Result ℤ Cause). found (before (flow_of (paid_on term) a (factor_on over.discount.now (paid_on term))
      (fixing_by (rate_by (views_of over.index) over.today (option_copied over.forecast) over.object) (fixed_on term)))
      (each_flow (product over) terms))) is
  by_first term terms (Ok units) (Err c) cause is are both more =
      none_before (product over term) (each_flow (product over) terms) (more c are)
  by_first term terms (Ok units) (Ok flows) cause is are both more = absurd (cc)

  -- where an amount is refused, so are the products
  amounts_refused : (terms : List FlowTerm) (cause : Cause) → with_amounts (amount over) terms ≡ Err cause
      → found (each_flow (product over) terms) ≡ None
  unfolding with_amounts each_flow
  amounts_refused [] cause is = absurd (cc)
  amounts_refused (term ∷ terms) cause is =
      by_first term terms (amount over term) (with_amounts (amount over) terms) cause refl refl is
      (λ c e. amounts_refused terms c e)

  pub products_refused : (cause : Cause)
      → live_flows (views_of over.index) over.today over.discount.now.reference (option_copied over.forecast)
      over.object
      over.terms.now.flows ≡ Err cause → found (products_over over) ≡ None
  products_refused cause is = amounts_refused (filter (live over) over.terms.now.flows) cause is

-- a call that gives flows has refused them
pub given_cause : (due : Result (List Flow) Cause) (fault : FlowFault) (cause : Cause) → fault ≡ Refused cause
    → Gives due (Err fault) → due ≡ Err cause
given_cause due fault cause is gives = subst (λ (f : FlowFault). Gives due (Err f)) is gives

-- ---- their text

pub text_found : (name : List ℕ) (flows : List FlowProduct) (r : Result (List FlowProduct) Cause) → Some flows ≡ found r
    → sum_text name (Ok flows) ≡ sum_text name r
text_found name flows (Ok others) is =
    let same : flows ≡ others = cc in ap (λ (l : List FlowProduct). sum_text name (Ok l)) same
text_found name flows (Err cause) is = absurd (cc)
