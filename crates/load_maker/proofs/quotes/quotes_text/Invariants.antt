use Rattle.std.proofs.Common.{◌≡◌}
use Rattle.load_maker.specs.Texts.{quote_record, for_each}
use Rattle.load_maker.proofs.quotes.quotes_text.Given as goal
use Rattle.std.specs.Prelude.{◌++◌, codes}

abbrev pub invariant-loop-at : goal.invariant-loop-at
invariant-loop-at l = l.text.items ≡ codes "name,value\n" ++ for_each quote_record l.at
