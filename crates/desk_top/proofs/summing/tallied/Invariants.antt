use Rattle.std.proofs.Common.{◌≡◌, ◌≤◌, ◌*◌, ◌^◌, drop}
use Rattle.desk_top.proofs.Summed.{Summed}
use Rattle.desk_top.proofs.summing.tallied.Given as goal

abbrev pub invariant-loop-command : goal.invariant-loop-command
invariant-loop-command g l = record {
  same : g.B.Bench.calc l.bench ≡ g.B.Bench.calc l.initial.bench;
  summed : Summed g.row.P.Denot (record { calc = g.B.Bench.calc l.initial.bench; at = g.P.Picker.at; after = g.P.Picker.after })
      l.initial.session l.commands (drop l.command-index l.commands) l.session l.tally
      (g.B.Bench.count l.initial.bench) (g.B.Bench.log l.initial.bench) (g.B.Bench.count l.bench) (g.B.Bench.log l.bench);
  bound : l.tally.bytes ≤ l.command-index * 2 ^ 64;
}
