use Rattle.std.proofs.Common.{refl}
use Rattle.watch_rounds.specs.Round.{runs_left}
use Rattle.watch_rounds.proofs.Stays.{round_without}
use Rattle.watch_rounds.proofs.rounds.Rounds.gone.Goals as goal

pub invariant_of-self : goal.invariant_of-self
invariant_of-self c = let stands = c.self.invariant.0 in rw (c.take_out.ensures.items, c.take_out.ensures.room) (
  record {
    round = round_without c.self.inside.due.items c.self.inside.tallies.items c.self.inside.nodes c.args.watcher
        stands.round;
    tracked = stands.tracked;
    limit = stands.limit;
  },
  c.self.invariant.1,
  c.self.invariant.2,
  c.self.invariant.3,
  c.self.invariant.4,
)

pub returns-clause-left : goal.returns-clause-left
unfolding runs_left
returns-clause-left c = rw (← c.self.view_is) refl
