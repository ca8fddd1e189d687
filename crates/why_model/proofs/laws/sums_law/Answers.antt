use Rattle.std.proofs.Common.{◌≡◌, pos, Bool, Ok, refl, sym, ◌∙◌, ap}
use Rattle.std.specs.Prelude.{if◌then◌else◌}
use Rattle.desk_terms.specs.declared.terms.Terms.TheVariants.{Composite, Flows}
use Rattle.desk_terms.specs.declared.value.Value.TheVariants.{Money}
use Rattle.desk_bench.specs.Pricing.{desk_calc}
use Rattle.desk_model.specs.Uses.{index_at}
use Rattle.discount_engines.specs.Flows.{discounted_price}
use Rattle.why_model.specs.Laws.{TheSumIsThePrice, TheProductsAddUp}
use Rattle.why_model.proofs.Shown.{inputs_of_shown}
use Rattle.why_model.proofs.Worked.{price_rounded, price_added}
use Rattle.why_model.proofs.laws.sums_law.Goals as goal

sum_is : TheSumIsThePrice
sum_is s links o flows engine amount are free unpaid shown =
    let h = inputs_of_shown desk_calc s links o (Flows flows engine) (Money amount) are refl free shown in
    let due = discounted_price o flows.flows s.market.today (index_at s.market flows.index) h.inputs in
    let price : due ≡ Ok (Money amount) =
    sym (ap (λ (b : Bool). if b then Ok (Money (pos 0)) else due) unpaid) ∙ h.price in
    let w = price_rounded o flows.flows s.market.today (index_at s.market flows.index) h.inputs amount price in
    record { inputs = h.inputs; given = h.given; products = w.products; worked = w.worked; rounded = w.rounded }

products_are : TheProductsAddUp
products_are s links o parts amount are free shown =
    let h = inputs_of_shown desk_calc s links o (Composite parts) (Money amount) are refl free shown in
    let w = price_added o parts h.inputs amount h.price in
    record { inputs = h.inputs; given = h.given; count = w.count; exact = w.exact }

pub returns-clause-the_sum_is_the_price : goal.returns-clause-the_sum_is_the_price
returns-clause-the_sum_is_the_price c = sum_is

pub returns-clause-the_products_add_up : goal.returns-clause-the_products_add_up
returns-clause-the_products_add_up c = products_are
