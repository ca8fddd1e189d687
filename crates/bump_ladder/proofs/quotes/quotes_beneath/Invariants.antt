use Rattle.std.proofs.Common.{◌≡◌, ◌++◌, drop}
use Rattle.bump_model.specs.Quotes.{beneath}
use Rattle.bump_ladder.proofs.quotes.quotes_beneath.Given as goal

-- of the quotes before the one at hand those beneath are found
abbrev pub invariant-loop-quote : goal.invariant-loop-quote
invariant-loop-quote l = record {
  found : l.found ++ beneath l.initial.desk.market l.object (drop l.quote-index l.quotes) ≡ beneath l.initial.desk.market l.object l.quotes;
  same : l.desk ≡ l.initial.desk;
}
