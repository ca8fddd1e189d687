use Rattle.std.proofs.Common.{◌≡◌, ◌++◌, ◌<◌, drop, length}
use Rattle.std.specs.List.{All}
use Rattle.desk_model.specs.Uses.{input_at}
use Rattle.session_why.specs.Lasts.{rates_by}
use Rattle.session_why.proofs.workings.rates_of.Given as goal

-- the rates before the one at hand are there
abbrev pub invariant-loop-quote : goal.invariant-loop-quote
invariant-loop-quote l = record {
  same : l.desk ≡ l.initial.desk;
  rates : l.rates.items ++ rates_by (input_at l.initial.desk.market) (drop l.quote-index l.quotes)
      ≡ rates_by (input_at l.initial.desk.market) l.quotes;
  within : All (λ quote. quote < length l.initial.desk.market.objects) (drop l.quote-index l.quotes);
}
