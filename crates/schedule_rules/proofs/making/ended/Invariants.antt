use Rattle.std.proofs.Common.{◌≡◌, ◌++◌, not}
use Rattle.std.specs.List.{filter}
use Rattle.std.specs.Int.Signed.{le_z}
use Rattle.schedule_rules.proofs.making.ended.Given as goal

abbrev pub invariant-loop-day : goal.invariant-loop-day
invariant-loop-day l = record {
  rest : l.list.items ++ filter (λ day. not (le_z l.end day)) l.day-iterator
      ≡ filter (λ day. not (le_z l.end day)) l.days.keys;
}
