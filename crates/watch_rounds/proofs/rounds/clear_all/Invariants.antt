use Rattle.std.proofs.Common.{◌≡◌, ℕ, drop, length, get_or, vec_capacity}
use Rattle.watch_rounds.specs.Round.{blank}
use Rattle.walks.specs.Walk.{Among}
use Rattle.watch_rounds.proofs.rounds.clear_all.Given as goal

abbrev pub invariant-loop-name : goal.invariant-loop-name
invariant-loop-name l = record {
  long : length l.tallies.items ≡ length l.initial.tallies.items;
  left : (other : ℕ) → (Among other (drop l.name-index l.names) → ⊥) → get_or l.tallies.items other blank ≡ blank;
  room : vec_capacity l.tallies ≡ vec_capacity l.initial.tallies;
}
