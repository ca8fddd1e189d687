use Rattle.instrument_terms.proofs.LawLemmas.{fault_is_the_first, faultless_parts_are_within}
use Rattle.instrument_terms.proofs.RangeLemmas.{parts_within_are_in_range}
use Rattle.instrument_terms.proofs.laws.composite_law.Goals as goal

pub returns-clause-first : goal.returns-clause-first
returns-clause-first c = fault_is_the_first

pub returns-clause-none : goal.returns-clause-none
returns-clause-none c = faultless_parts_are_within

pub returns-clause-range : goal.returns-clause-range
returns-clause-range c = parts_within_are_in_range
