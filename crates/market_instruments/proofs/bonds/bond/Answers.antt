use Rattle.std.proofs.Common.{List, sym, subst}
use Rattle.flow_terms.specs.declared.flows.FlowTerm.{FlowTerm}
use Rattle.market_instruments.specs.Appended.{AreWithin}
use Rattle.market_instruments.proofs.AppendLemmas.{none_within}
use Rattle.market_instruments.proofs.bonds.bond.Goals as goal

pub instrument_of-requires : goal.instrument_of-requires
instrument_of-requires c =
    let index = c.in_ok-index.index in
    let start = subst (λ (flows : List FlowTerm). AreWithin index flows) (sym c.new-flows.ensures) (none_within index) in
    c.push_redemption.ensures.range index (c.push_coupons.ensures.range start)
