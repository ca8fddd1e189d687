use Rattle.std.proofs.Common.{◌≡◌, ◌++◌, drop}
use Rattle.desk_model.specs.Sound.{IsSound}
use Rattle.why_model.specs.Answer.{lines_of_each}
use Rattle.session_why.specs.Computed.{ask_each}
use Rattle.session_why.proofs.Counted.{Come}
use Rattle.session_why.proofs.answering.push_each.Given as goal

-- what is written of the objects before the one at hand is there, and nothing that is written has changed
abbrev pub invariant-loop-number : goal.invariant-loop-number
invariant-loop-number g l = record {
  same : g.B.Bench.calc l.bench ≡ g.B.Bench.calc l.initial.bench;
  come : Come (ask_each (g.B.Bench.calc l.initial.bench) l.list l.initial.session.standing.state)
      (ask_each (g.B.Bench.calc l.initial.bench) (drop l.number-index l.list) l.session.standing.state)
      (g.B.Bench.count l.initial.bench) (g.B.Bench.count l.bench) (g.B.Bench.log l.initial.bench)
      (g.B.Bench.log l.bench);
  text : l.out.items ++ lines_of_each (g.B.Bench.calc l.initial.bench) l.session.standing (drop l.number-index l.list)
      ≡ l.initial.out.items ++ lines_of_each (g.B.Bench.calc l.initial.bench) l.initial.session.standing l.list;
  stays : l.session
      ≡ record l.initial.session { standing = record l.initial.session.standing { state = l.session.standing.state } };
  market : l.session.standing.state.market ≡ l.initial.session.standing.state.market;
  sound : IsSound (g.B.Bench.calc l.initial.bench) l.session.standing.state;
}
