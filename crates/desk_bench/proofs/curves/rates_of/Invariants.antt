use Rattle.std.proofs.Common.{◌≡◌, ◌++◌, drop}
use Rattle.desk_bench.specs.Pricing.{rates_of}
use Rattle.desk_bench.proofs.curves.rates_of.Given as goal

-- the rates before the input at hand are taken
abbrev pub invariant-loop-input : goal.invariant-loop-input
invariant-loop-input l = l.rates.items ++ rates_of (drop l.input-index l.inputs) ≡ rates_of l.inputs
