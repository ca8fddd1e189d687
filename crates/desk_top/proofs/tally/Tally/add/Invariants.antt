use Rattle.std.proofs.Common.{◌≡◌, ◌+◌, take}
use Rattle.desk_top.specs.Summary.{with_bytes}
use Rattle.desk_top.proofs.tally.Tally.add.Given as goal

abbrev pub invariant-loop-byte : goal.invariant-loop-byte
invariant-loop-byte l = record {
  tally : l.self ≡ with_bytes l.initial.self (take l.byte-index l.piece);
  bytes : l.self.bytes ≡ l.initial.self.bytes + l.byte-index;
}
