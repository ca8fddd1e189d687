use Rattle.instrument_terms.proofs.RangeLemmas.{faultless_in_range}
use Rattle.instrument_terms.proofs.ranges.are_parts.Goals as goal

pub returns-then-parts-le-MOST_PARTS : goal.returns-then-parts-le-MOST_PARTS
returns-then-parts-le-MOST_PARTS c =
    let exact = faultless_in_range c.args.parts.now c.fault_of_parts.result c.is_none.result c.fault_of_parts.ensures c.is_none.ensures in (
      (λ none. record { count = c.if-parts-le-MOST_PARTS.true; each = exact.0 none }),
      (λ ranged. exact.1 ranged.each),
    )
