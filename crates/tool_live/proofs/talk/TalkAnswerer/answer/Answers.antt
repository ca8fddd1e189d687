use Rattle.std.proofs.Common.{ap, ℕ, Bool, List, length}
use Rattle.desk_terms.specs.Bench.{counted, logged}
use Rattle.session_model.specs.Course.{Meaning}
use Rattle.live_session.specs.Lines.{live_of}
use Rattle.tool_live.proofs.Replied.{conversation_alike, calls_alike}
use Rattle.tool_live.proofs.talk.TalkAnswerer.answer.Goals as goal

pub returns-clause-long : goal.returns-clause-long
returns-clause-long g c = λ long other rest too.
    let t = c.args.self.now in
    let m : Meaning g.row.P.Denot = record { calc = g.B.Bench.calc t.bench.now; at = g.P.Picker.at; after = g.P.Picker.after } in (
      conversation_alike m t.ready (live_of t.session.now t.lines.now) c.args.line.now other rest long too,
      ap (λ (calls : List (ℕ × Bool)). (counted (g.B.Bench.count t.bench.now) (length calls), logged (g.B.Bench.log t.bench.now) calls))
          (calls_alike m t.ready (live_of t.session.now t.lines.now) c.args.line.now other rest long too),
    )
