use Rattle.std.proofs.Common.{◌-◌, arith, ap, length, true≢false, sym}
use Rattle.std.proofs.lemmas.List.{length-replicate}
use Rattle.watch_rounds.specs.Round.{blank}
use Rattle.session_rounds.proofs.session.WatchedSession.new.Goals as goal

pub invariant_of-result : goal.invariant_of-result
invariant_of-result g c =
    rw (c.in_ok-grow.ensures.ok, c.new-rounds.ensures) (
      record {
        counted = omega (arith, length-replicate (c.len.result - 0) blank, c.len.ensures.len, ap (λ l. length l) c.names.ensures);
        room = omega (arith, c.numbers.ensures.numbers);
        spare = λ going. omega (arith, c.numbers.ensures.numbers);
        due = tt;
        known = c.requires.known;
      },
      (λ settled. tt, λ heard. absurd (true≢false (sym heard))),
    )
