-- The price of a composite is its sum, where that is money.
use Rattle.std.proofs.Common.{◌≡◌, ◌≤◌, ◌*ℤ◌, ◌∙◌, ℕ, ℤ, Bool, List, [], ◌∷◌, length, Option, Some, None, Err, ap, refl}
use Rattle.std.specs.Prelude.{if◌then◌else◌}
use Rattle.std.specs.Int.RustNames.{unsigned_abs}
use Rattle.std.proofs.lemmas.Bool.{le-leb}
use Rattle.desk_terms.specs.declared.terms.Part.{Part}
use Rattle.desk_terms.specs.declared.value.Input as input
use Rattle.desk_terms.specs.declared.cause.Cause.TheVariants.{TooLarge}
use Rattle.desk_terms.specs.Parts.{AreEachInRange, ArePartsInRange}
use Rattle.desk_terms.specs.Reading.{AreMoney, IsWellFormed}
use Rattle.desk_terms.specs.Sums.{summed, composite_reading}
use Rattle.discount_engines.specs.Money.{money_of}
use Rattle.discount_engines.specs.Composite.{product, plus, weighted, money_or_none, composite_price}

-- a weight within its limit times an amount
product_money : (part : Part) (amount : ℤ) → unsigned_abs part.weight ≤ 1000000 → product part (input.TheVariants.Money amount) ≡ Some (part.weight *ℤ amount)
product_money part amount small =
    ap (λ (b : Bool). if b then Some (part.weight *ℤ amount) else None) (le-leb (unsigned_abs part.weight) 1000000 small)

-- over as many amounts as parts in range, the sum is there
weighted_summed : (parts : List Part) (inputs : List input.Input) → AreEachInRange parts → AreMoney parts inputs → weighted parts inputs ≡ Some (summed parts inputs)
unfolding summed
weighted_summed [] inputs each are = refl
weighted_summed (part ∷ parts) [] each are = absurd are
weighted_summed (part ∷ parts) (input.TheVariants.Rate rate ∷ inputs) each are = absurd are
weighted_summed (part ∷ parts) (input.TheVariants.Curve curve ∷ inputs) each are = absurd are
weighted_summed (part ∷ parts) (input.TheVariants.Money amount ∷ inputs) each are =
    ap (λ (p : Option ℤ). plus p (weighted parts inputs)) (product_money part amount each.0.1)
    ∙ ap (plus (Some (part.weight *ℤ amount))) (weighted_summed parts inputs each.1.1 are)

pub price_summed : (o : ℕ) (parts : List Part) (inputs : List input.Input) → AreMoney parts inputs → ArePartsInRange parts
    → composite_price o parts inputs ≡ money_of o (summed parts inputs)
price_summed o parts inputs are range =
    ap (λ (b : Bool). if b then money_or_none o (weighted parts inputs) else Err (TooLarge o)) (le-leb (length parts) 4096 range.count)
    ∙ ap (money_or_none o) (weighted_summed parts inputs range.each are)

-- the same of a reading
pub reading_summed : (o : ℕ) (parts : List Part) (inputs : List input.Input) → IsWellFormed (composite_reading o parts inputs)
    → composite_price o parts inputs ≡ money_of o (summed parts inputs)
reading_summed o parts inputs formed = price_summed o parts inputs formed.inputs formed.range
