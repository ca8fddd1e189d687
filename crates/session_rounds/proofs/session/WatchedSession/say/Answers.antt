use Rattle.std.proofs.Common.{◌≡◌, ℕ, List, [], subst}
use Rattle.watch_rounds.specs.declared.notice.Notice.{Notice}
use Rattle.price_report.specs.Line.{over_line}
use Rattle.session_model.specs.Course.{over_lines}
use Rattle.session_rounds.proofs.session.WatchedSession.say.Goals as goal

written : (names : List (List ℕ)) (name : ℕ) → over_line names name ≡ [] → ⊥
unfolding over_line
written names name none = cc

pub returns-in-OverFirst-clause-ready : goal.returns-in-OverFirst-clause-ready
returns-in-OverFirst-clause-ready g c = λ none. absurd (written c.args.self.now.standing.names c.args.name
    (subst (λ (n : Notice). over_lines c.args.self.now.standing.names c.args.name n ≡ []) c.in-OverFirst.is none))
