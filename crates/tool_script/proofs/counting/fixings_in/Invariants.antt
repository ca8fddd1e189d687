use Rattle.std.proofs.Common.{◌≡◌, ◌*◌, ◌^◌, ◌≤◌, take}
use Rattle.tool_script.specs.Fixings.{fixings_in}
use Rattle.tool_script.proofs.counting.fixings_in.Given as goal

abbrev pub invariant-loop-terms : goal.invariant-loop-terms
invariant-loop-terms l = record {
  sum : l.count ≡ fixings_in (take l.terms-index l.made.items);
  bound : l.count ≤ l.terms-index * 2 ^ 64;
}
