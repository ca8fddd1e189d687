-- The products of flows, one behind another.
use Rattle.std.proofs.Common.{◌≡◌, ℤ, Bool, true, false, List, [], ◌∷◌, ◌++◌, Some, None, Result, Ok, Err, refl, sym}
use Rattle.std.proofs.Common.{◌∙◌, ap}
use Rattle.std.specs.Prelude.{if◌then◌else◌, option_copied}
use Rattle.std.specs.List.{filter}
use Rattle.desk_terms.specs.declared.cause.Cause.{Cause}
use Rattle.flow_terms.specs.declared.flows.FlowTerm.{FlowTerm}
use Rattle.flow_terms.specs.Flows.{paid_on, fixed_on}
use Rattle.cash_flow_legs.specs.declared.live_flows.Flow.{Flow}
use Rattle.cash_flow_legs.specs.Amount.{views_of, amount_of}
use Rattle.cash_flow_legs.specs.Live.{is_live, flow_or_cause, with_amounts}
use Rattle.discount_engines.specs.Worth.{factor_on}
use Rattle.why_model.specs.Workings.{FlowProduct, fixing_by, rate_by, flow_of, flow_product, before, each_flow}
use Rattle.session_why.specs.declared.products.Over.{Over}
use Rattle.session_why.specs.Over.{found, product_over, products_over}

-- products in front of others
abbrev pub prepended : List FlowProduct → Result (List FlowProduct) Cause → Result (List FlowProduct) Cause
prepended [] rest = rest
prepended (x ∷ xs) rest = before (Ok x) (prepended xs rest)

pub prepended_more : (xs : List FlowProduct) (x : FlowProduct) (rest : Result (List FlowProduct) Cause)
    → prepended (xs ++ x ∷ []) rest ≡ prepended xs (before (Ok x) rest)
prepended_more [] x rest = refl
prepended_more (y ∷ xs) x rest = ap (before (Ok y)) (prepended_more xs x rest)

prepended_cause : (xs : List FlowProduct) (cause : Cause) → prepended xs (Err cause) ≡ Err cause
prepended_cause [] cause = refl
prepended_cause (x ∷ xs) cause = ap (before (Ok x)) (prepended_cause xs cause)

prepended_all : (xs : List FlowProduct) → prepended xs (Ok []) ≡ Ok xs
prepended_all [] = refl
prepended_all (x ∷ xs) = ap (before (Ok x)) (prepended_all xs)

module _ (over : Over) where
  abbrev pub amount : FlowTerm → Result ℤ Cause
  amount = amount_of (views_of over.index) over.today (option_copied over.forecast) over.object

  abbrev pub live : FlowTerm → Bool
  live = is_live over.today over.discount.now.reference

  abbrev pub product : FlowTerm → Result FlowProduct Cause
  product =
      flow_product amount (factor_on over.discount.now)
      (rate_by (views_of over.index) over.today (option_copied over.forecast) over.object)

  -- how far they have come: these products are there, and these amounts are left
  pub record Worked (terms : List FlowTerm) (list : List Flow) (products : List FlowProduct) : Type 0 where
    pub due : products_over over ≡ prepended products (each_flow product (filter live terms))
    pub amounts : with_amounts amount (filter live terms) ≡ Ok list

  -- the first flow that is left
  record HasAmount (term : FlowTerm) (terms : List FlowTerm) (list : List Flow) : Type 0 where
    units : ℤ
    is : amount term ≡ Ok units
    rest : List Flow
    first : list ≡ record { paid = paid_on term; amount = units } ∷ rest
    more : with_amounts amount terms ≡ Ok rest

  first_amount : (term : FlowTerm) (terms : List FlowTerm) (list : List Flow) (a : Result ℤ Cause)
      (r : Result (List Flow) Cause)
      → amount term ≡ a → with_amounts amount terms ≡ r → flow_or_cause (paid_on term) a r ≡ Ok list
      → HasAmount term terms list
  first_amount term terms list (Err cause) r is are both = absurd (cc)
  first_amount term terms list (Ok units) (Err cause) is are both = absurd (cc)
  first_amount term terms list (Ok units) (Ok rest) is are both =
      record { units = units; is = is; rest = rest; first = cc; more = are }

  has_amount : (term : FlowTerm) (terms : List FlowTerm) (list : List Flow) → live term ≡ true
      → with_amounts amount (filter live (term ∷ terms)) ≡ Ok list → HasAmount term (filter live terms) list
  unfolding with_amounts
  has_amount term terms list is are =
      first_amount term (filter live terms) list (amount term) (with_amounts amount (filter live terms)) refl refl
      (sym (ap (λ (b : Bool). with_amounts amount (if b then term ∷ filter live terms else filter live terms)) is)
      ∙ are)

  -- one that is not to be paid any more
  pub worked_past : (term : FlowTerm) (terms : List FlowTerm) (list : List Flow) (products : List FlowProduct)
      → live term ≡ false
      → Worked (term ∷ terms) list products → Worked terms list products
  worked_past term terms list products is w =
      let e : filter live (term ∷ terms) ≡ filter live terms =
      ap (λ (b : Bool). if b then term ∷ filter live terms else filter live terms) is in
      record {
        due = w.due ∙ ap (λ (l : List FlowTerm). prepended products (each_flow product l)) e;
        amounts = sym (ap (with_amounts amount) e) ∙ w.amounts;
      }

  head_is : (a b : Flow) (xs ys : List Flow) → a ∷ xs ≡ b ∷ ys → (a ≡ b) × (xs ≡ ys)
  head_is a b xs ys e = (cc, cc)

  each_live : (term : FlowTerm) (terms : List FlowTerm) → live term ≡ true
      → each_flow product (filter live (term ∷ terms)) ≡ before (product term) (each_flow product (filter live terms))
  unfolding each_flow
  each_live term terms is =
      ap (λ (b : Bool). each_flow product (if b then term ∷ filter live terms else filter live terms)) is

  module _ (term : FlowTerm) (terms : List FlowTerm) (flow : Flow) (rest : List Flow) (products : List FlowProduct)
      (is : live term ≡ true) (w : Worked (term ∷ terms) (flow ∷ rest) products) where
    abbrev one : HasAmount term (filter live terms) (flow ∷ rest)
    one = has_amount term terms (flow ∷ rest) is w.amounts

    product_is : product term ≡ product_over over term flow.amount
    product_is =
        ap (λ (a : Result ℤ Cause). flow_of (paid_on term) a (factor_on over.discount.now (paid_on term))
        (fixing_by (rate_by (views_of over.index) over.today (option_copied over.forecast) over.object)
        (fixed_on term)))
        (one.is ∙ ap (λ (u : ℤ). units_as u)
        (sym (ap (λ (f : Flow). f.amount)
        (head_is flow (record { paid = paid_on term; amount = one.units }) rest one.rest one.first).0)))
      where
        units_as : ℤ → Result ℤ Cause
        units_as u = Ok u

    -- the next product is there
    pub worked_next : (x : FlowProduct) → product_over over term flow.amount ≡ Ok x
        → Worked terms rest (products ++ x ∷ [])
    worked_next x found = record {
      due = w.due ∙ ap (prepended products) (each_live term terms is
          ∙ ap (λ (r : Result FlowProduct Cause). before r (each_flow product (filter live terms)))
          (product_is ∙ found))
          ∙ sym (prepended_more products x (each_flow product (filter live terms)));
      amounts =
          one.more ∙ ap (λ (l : List Flow). flows_as l)
          (sym (head_is flow (record { paid = paid_on term; amount = one.units }) rest one.rest one.first).1);
    }
      where
        flows_as : List Flow → Result (List Flow) Cause
        flows_as l = Ok l

    -- or it is refused, and then they are
    pub worked_refused : (cause : Cause) → product_over over term flow.amount ≡ Err cause
        → found (products_over over) ≡ None
    worked_refused cause refused =
        ap found (w.due ∙ ap (prepended products) (each_live term terms is
        ∙ ap (λ (r : Result FlowProduct Cause). before r (each_flow product (filter live terms)))
        (product_is ∙ refused))
        ∙ prepended_cause products cause)

  -- no flow is left
  pub worked_all : (list : List Flow) (products : List FlowProduct) → Worked [] list products
      → found (products_over over) ≡ Some products
  unfolding each_flow
  worked_all list products w = ap found (w.due ∙ prepended_all products)

  -- a flow that is to be paid has an amount
  pub worked_some : (term : FlowTerm) (terms : List FlowTerm) (products : List FlowProduct) → live term ≡ true
      → Worked (term ∷ terms) [] products → ⊥
  worked_some term terms products is w = let one = has_amount term terms [] is w.amounts in never one.first
    where
      never : {x : Flow} {xs : List Flow} → [] ≡ x ∷ xs → ⊥
      never e = cc
