use Rattle.std.proofs.Common.{◌≡◌, ◌++◌, drop}
use Rattle.curve_run.specs.Quoted.{helper_quotes}
use Rattle.curve_run.proofs.quoted.push_quotes.Given as goal

-- the quotes of the helpers before the one at hand are there
abbrev pub invariant-loop-helper : goal.invariant-loop-helper
invariant-loop-helper l =
    l.quotes.items ++ helper_quotes (drop l.helper-index l.helpers) ≡ l.initial.quotes.items ++ helper_quotes l.helpers
