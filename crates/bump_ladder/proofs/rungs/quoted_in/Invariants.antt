use Rattle.std.proofs.Common.{◌≡◌, ◌++◌, drop}
use Rattle.bump_model.specs.Moves.{quoted_in, AreQuotes}
use Rattle.bump_ladder.proofs.rungs.quoted_in.Given as goal

-- the quotes before the one at hand are quoted
abbrev pub invariant-loop-quote : goal.invariant-loop-quote
invariant-loop-quote l = record {
  quoted : l.quoted.items ++ quoted_in l.desk.market (drop l.quote-index l.quotes) ≡ quoted_in l.desk.market l.quotes;
  quotes : AreQuotes l.desk.market (drop l.quote-index l.quotes);
}
