-- What flows and parts are worth is the sum of their products.
use Rattle.std.proofs.Common.{◌≡◌, ℕ, suc, ◌^◌, Bool, true, false, ℤ, pos, ◌+ℤ◌, ◌*ℤ◌, List, [], ◌∷◌, length, Option, Some, None, Result, Ok, Err, refl, sym, ◌∙◌, ap}
use Rattle.std.specs.Prelude.{if◌then◌else◌, int_le, neg_ℤ, nat_le, unsigned_abs, ◌&&◌}
use Rattle.fixed_amount.specs.Rounding.{closest}
use Rattle.curve_points.specs.Curve.{Curve}
use Rattle.desk_terms.specs.declared.cause.Cause.{Cause}
use Rattle.desk_terms.specs.declared.cause.Cause.TheVariants.{TooLarge}
use Rattle.desk_terms.specs.declared.terms.Part.{Part}
use Rattle.desk_terms.specs.declared.value.Input as input
use Rattle.desk_terms.specs.declared.value.Value.TheVariants.{Money}
use Rattle.desk_terms.specs.Reading.{IndexReading}
use Rattle.flow_terms.specs.declared.flows.FlowTerm.{FlowTerm}
use Rattle.flow_terms.specs.declared.flows.FlowTerm.TheVariants.{Known, Float, Forward}
use Rattle.flow_terms.specs.Flows.{paid_on, fixed_on}
use Rattle.rate_indexes.specs.Forecast.{on_value}
use Rattle.cash_flow_legs.specs.Amount.{IndexView, amount_of, rate_on}
use Rattle.cash_flow_legs.specs.Live.{is_live}
use Rattle.std.specs.List.{filter}
use Rattle.discount_engines.specs.Worth.{added, factor_on, discounted, worth}
use Rattle.discount_engines.specs.Composite.{plus, weighted, money_or_none, composite_price}
use Rattle.discount_engines.specs.Flows.{view_read, value_of, discounted_price}
use Rattle.why_model.specs.Workings.{part_products, sum_of_parts, FlowProduct, rate_of_day, fixing_by, rate_by, flow_of, flow_product, before, each_flow, flow_products, flows_over, sum_of_flows}

-- these products are there, and their sum is so much
pub record AreWorked (found : Result (List FlowProduct) Cause) (units : ℤ) : Type 0 where
  pub products : List FlowProduct
  pub are : found ≡ Ok products
  pub sum : sum_of_flows products ≡ units

-- ---- flows

-- an amount that is there stands on a fixing that is there
rate_there : (day a : ℤ) (step : ℤ → Result ℤ Cause) (r : Result ℤ Cause) → on_value step r ≡ Ok a
    → (x : Option (ℤ × ℤ)) × (rate_of_day day r ≡ Ok x)
rate_there day a step (Ok rate) is = (Some (day, rate), refl)
rate_there day a step (Err cause) is = absurd (cc)

fixed : (index : Option IndexView) (today : ℤ) (forecast : Option Curve) (o : ℕ) (flow : FlowTerm) (a : ℤ)
    → amount_of index today forecast o flow ≡ Ok a
    → (x : Option (ℤ × ℤ)) × (fixing_by (rate_by index today forecast o) (fixed_on flow) ≡ Ok x)
fixed None today forecast o (Known paid amount period) a is = (None, refl)
fixed None today forecast o (Float paid notional spread parts fixing) a is = absurd (cc)
fixed None today forecast o (Forward paid notional strike fixing) a is = absurd (cc)
fixed (Some index) today forecast o (Known paid amount period) a is = (None, refl)
fixed (Some index) today forecast o (Float paid notional spread parts fixing) a is =
    rate_there fixing a _ (rate_on index today forecast fixing) is
fixed (Some index) today forecast o (Forward paid notional strike fixing) a is =
    rate_there fixing a _ (rate_on index today forecast fixing) is

-- one flow more
one_flow : (paid : ℤ) (amount factor : Result ℤ Cause) (fixing : Result (Option (ℤ × ℤ)) Cause) (rest : Result ℤ Cause)
    (more : Result (List FlowProduct) Cause) (units : ℤ)
    → ((a : ℤ) → amount ≡ Ok a → (x : Option (ℤ × ℤ)) × (fixing ≡ Ok x))
    → ((u : ℤ) → rest ≡ Ok u → AreWorked more u)
    → on_value (λ u. added u rest) (on_value (λ a. on_value (λ d. Ok (a *ℤ d)) factor) amount) ≡ Ok units
    → AreWorked (before (flow_of paid amount factor fixing) more) units
one_flow paid (Err cause) factor fixing rest more units there worked is = absurd (cc)
one_flow paid (Ok a) (Err cause) fixing rest more units there worked is = absurd (cc)
one_flow paid (Ok a) (Ok d) fixing (Err cause) more units there worked is = absurd (cc)
one_flow paid (Ok a) (Ok d) (Err cause) (Ok u) more units there worked is =
    absurd (let none : Err cause ≡ Ok (there a refl).0 = (there a refl).1 in cc)
one_flow paid (Ok a) (Ok d) (Ok x) (Ok u) more units there worked is =
    let w = worked u refl in
    let first : FlowProduct = record { paid = paid; amount = a; factor = d; product = a *ℤ d; fixing = x } in
    let sum : (a *ℤ d) +ℤ u ≡ units = cc in
    record {
      products = first ∷ w.products;
      are = ap (before (Ok first)) w.are;
      sum = ap (λ (z : ℤ). (a *ℤ d) +ℤ z) w.sum ∙ sum;
    }

module _ (amount : FlowTerm → Result ℤ Cause) (factor rate : ℤ → Result ℤ Cause)
    (there : (flow : FlowTerm) (a : ℤ) → amount flow ≡ Ok a → (x : Option (ℤ × ℤ)) × (fixing_by rate (fixed_on flow) ≡ Ok x)) where
  -- what flows are worth is the sum of their products
  pub flows_worked : (flows : List FlowTerm) (units : ℤ) → worth (discounted amount factor) flows ≡ Ok units
      → AreWorked (each_flow (flow_product amount factor rate) flows) units
  unfolding worth each_flow
  flows_worked [] units is = record { products = []; are = refl; sum = let none : pos 0 ≡ units = cc in none }
  flows_worked (flow ∷ flows) units is =
      one_flow (paid_on flow) (amount flow) (factor (paid_on flow)) (fixing_by rate (fixed_on flow))
      (worth (discounted amount factor) flows) (each_flow (flow_product amount factor rate) flows) units
      (there flow) (flows_worked flows) is

-- money that is there is so many units
money_is : (o : ℕ) (units amount : ℤ) (b : Bool)
    → (if b then Ok (Money units) else Err (TooLarge o)) ≡ Ok (Money amount) → amount ≡ units
money_is o units amount true is = cc
money_is o units amount false is = absurd (cc)

-- the products are there, and an amount is their sum, rounded once
pub record AreRounded (found : Result (List FlowProduct) Cause) (amount : ℤ) : Type 0 where
  pub products : List FlowProduct
  pub worked : found ≡ Ok products
  pub rounded : amount ≡ closest (sum_of_flows products) (10 ^ 12)

rounded_of : (o : ℕ) (amount : ℤ) (due : Result ℤ Cause) (found : Result (List FlowProduct) Cause)
    → ((units : ℤ) → due ≡ Ok units → AreWorked found units) → value_of o due ≡ Ok (Money amount) → AreRounded found amount
rounded_of o amount (Err cause) found worked is = absurd (cc)
rounded_of o amount (Ok units) found worked is =
    let w = worked units refl in
    record {
      products = w.products;
      worked = w.are;
      rounded = money_is o (closest units (10 ^ 12)) amount
          (int_le (neg_ℤ (pos (10 ^ 24))) (closest units (10 ^ 12)) && int_le (closest units (10 ^ 12)) (pos (10 ^ 24))) is
          ∙ ap (λ (z : ℤ). closest z (10 ^ 12)) (sym w.sum);
    }

-- THE SUM OF THE PRODUCTS over the inputs of a price, rounded once, is the price
pub price_rounded : (o : ℕ) (flows : List FlowTerm) (today : ℤ) (index : Option IndexReading) (inputs : List input.Input) (amount : ℤ)
    → discounted_price o flows today index inputs ≡ Ok (Money amount)
    → AreRounded (flows_over o flows today (view_read index) inputs) amount
price_rounded o flows today index [] amount is = absurd (cc)
price_rounded o flows today index (input.TheVariants.Rate rate ∷ inputs) amount is = absurd (cc)
price_rounded o flows today index (input.TheVariants.Money money ∷ inputs) amount is = absurd (cc)
price_rounded o flows today index (input.TheVariants.Curve curve ∷ []) amount is =
    rounded_of o amount
    (worth (discounted (amount_of (view_read index) today None o) (factor_on curve)) (filter (is_live today curve.reference) flows))
    (flow_products o flows today (view_read index) curve None)
    (flows_worked (amount_of (view_read index) today None o) (factor_on curve) (rate_by (view_read index) today None o)
    (fixed (view_read index) today None o) (filter (is_live today curve.reference) flows)) is
price_rounded o flows today index (input.TheVariants.Curve curve ∷ input.TheVariants.Rate rate ∷ inputs) amount is = absurd (cc)
price_rounded o flows today index (input.TheVariants.Curve curve ∷ input.TheVariants.Money money ∷ inputs) amount is = absurd (cc)
price_rounded o flows today index (input.TheVariants.Curve curve ∷ input.TheVariants.Curve forecast ∷ []) amount is =
    rounded_of o amount
    (worth (discounted (amount_of (view_read index) today (Some forecast) o) (factor_on curve)) (filter (is_live today curve.reference) flows))
    (flow_products o flows today (view_read index) curve (Some forecast))
    (flows_worked (amount_of (view_read index) today (Some forecast) o) (factor_on curve) (rate_by (view_read index) today (Some forecast) o)
    (fixed (view_read index) today (Some forecast) o) (filter (is_live today curve.reference) flows)) is
price_rounded o flows today index (input.TheVariants.Curve curve ∷ input.TheVariants.Curve forecast ∷ i ∷ inputs) amount is =
    absurd (cc)

-- ---- parts

-- parts are each worth a product, and their sum is so much
pub record AreAdded (parts : List Part) (inputs : List input.Input) (units : ℤ) : Type 0 where
  pub count : length (part_products parts inputs) ≡ length parts
  pub exact : units ≡ sum_of_parts (part_products parts inputs)

one_part : (b : Bool) (own units : ℤ) (rest : Option ℤ) → plus (if b then Some own else None) rest ≡ Some units
    → (u : ℤ) × (rest ≡ Some u) × (units ≡ own +ℤ u)
one_part false own units rest is = absurd (cc)
one_part true own units None is = absurd (cc)
one_part true own units (Some u) is = (u, refl, cc)

parts_added : (parts : List Part) (inputs : List input.Input) (units : ℤ) → weighted parts inputs ≡ Some units
    → AreAdded parts inputs units
parts_added [] inputs units is = record { count = refl; exact = cc }
parts_added (part ∷ parts) [] units is = absurd (cc)
parts_added (part ∷ parts) (input.TheVariants.Rate rate ∷ inputs) units is = absurd (cc)
parts_added (part ∷ parts) (input.TheVariants.Curve curve ∷ inputs) units is = absurd (cc)
parts_added (part ∷ parts) (input.TheVariants.Money money ∷ inputs) units is =
    let one = one_part (nat_le (unsigned_abs part.weight) 1000000) (part.weight *ℤ money) units (weighted parts inputs) is in
    let rest = parts_added parts inputs one.0 one.1 in
    record {
      count = ap suc rest.count;
      exact = one.2 ∙ ap (λ (z : ℤ). (part.weight *ℤ money) +ℤ z) rest.exact;
    }

worth_added : (o : ℕ) (parts : List Part) (inputs : List input.Input) (amount : ℤ) (found : Option ℤ) → weighted parts inputs ≡ found
    → money_or_none o found ≡ Ok (Money amount) → AreAdded parts inputs amount
worth_added o parts inputs amount None are is = absurd (cc)
worth_added o parts inputs amount (Some units) are is =
    let same : amount ≡ units = money_is o units amount (int_le (neg_ℤ (pos (10 ^ 24))) units && int_le units (pos (10 ^ 24))) is in
    let rest = parts_added parts inputs units are in
    record { count = rest.count; exact = same ∙ rest.exact }

-- THE PRODUCTS of a composite add up to its price
pub price_added : (o : ℕ) (parts : List Part) (inputs : List input.Input) (amount : ℤ)
    → composite_price o parts inputs ≡ Ok (Money amount) → AreAdded parts inputs amount
price_added o parts inputs amount is = by_count (nat_le (length parts) 4096) is
  where
    by_count : (b : Bool)
        → (if b then money_or_none o (weighted parts inputs) else Err (TooLarge o)) ≡ Ok (Money amount)
        → AreAdded parts inputs amount
    by_count true priced = worth_added o parts inputs amount (weighted parts inputs) refl priced
    by_count false priced = absurd (cc)
