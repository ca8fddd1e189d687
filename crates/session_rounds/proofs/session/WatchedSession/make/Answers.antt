use Rattle.std.proofs.Common.{◌+◌, ◌∙◌, sym, subst, arith}
use Rattle.std.proofs.lemmas.Bool.{false≢true}
use Rattle.watch_rounds.specs.Round.{Round}
use Rattle.session_model.specs.Course.{Running}
use Rattle.session_model.specs.Resolve.{making, unless_taken}
use Rattle.session_core.specs.Steps.{AnswersMake}
use Rattle.session_core.proofs.Making.{answers_refused, answers_memory, taken_refuses, full_refuses, is_made}
use Rattle.session_rounds.specs.Fits.{Fits}
use Rattle.session_rounds.proofs.Fitting.{grown_same}
use Rattle.session_rounds.proofs.Larger.{fits_making}
use Rattle.session_rounds.proofs.session.WatchedSession.make.Goals as goal

pub returns-in_err-free-clause-answer : goal.returns-in_err-free-clause-answer
returns-in_err-free-clause-answer g c =
    subst (λ (z : Running g.row.P.Denot). AnswersMake
    (unless_taken z.standing c.args.name (making z.standing c.args.name c.args.terms)) c.from_residual.result) c.self.view_is
    (answers_refused _ c.from_residual.result c.in_err-free.field-0.0 c.from_residual.ensures.1
    (taken_refuses c.self.inside.session c.args.name c.args.terms c.in_err-free.field-0.0
    (sym c.free.ensures ∙ c.in_err-free.was)))

pub returns-in_err-room-clause-answer : goal.returns-in_err-room-clause-answer
returns-in_err-room-clause-answer g c =
    subst (λ (z : Running g.row.P.Denot). AnswersMake
    (unless_taken z.standing c.args.name (making z.standing c.args.name c.args.terms)) c.from_residual-in_err-room.result)
    c.self.view_is
    (answers_refused _ c.from_residual-in_err-room.result c.in_err-room.field-0.0 c.from_residual-in_err-room.ensures.1
    (full_refuses c.self.inside.session c.args.name c.args.terms c.in_err-room.field-0.0
    (sym c.free.ensures ∙ c.in_ok-free.was) (sym c.room.ensures ∙ c.in_err-room.was)))

pub returns-in_err-grow-clause-answer : goal.returns-in_err-grow-clause-answer
returns-in_err-grow-clause-answer g c =
    subst (λ (z : Running g.row.P.Denot). AnswersMake
    (unless_taken z.standing c.args.name (making z.standing c.args.name c.args.terms)) c.from_residual-in_err-grow.result)
    c.self.view_is
    (answers_memory _ c.from_residual-in_err-grow.result c.from_residual-in_err-grow.ensures.1
    (is_made c.self.inside.session c.args.name c.args.terms (sym c.free.ensures ∙ c.in_ok-free.was)
    (sym c.room.ensures ∙ c.in_ok-room.was)))

pub invariant_of-self-2 : goal.invariant_of-self-2
invariant_of-self-2 g c =
    let r : Running g.row.P.Denot = record {
      standing = c.self.inside.session;
      round = c.self.inside.rounds.round;
      picker = c.self.inside.picker;
    } in
    let grown = grown_same c.self.inside.rounds c.grow.new.self (c.numbers.result + 2) c.in_ok-grow.ensures.ok in
    let nodes = grown.1 in let numbers = c.numbers.ensures.numbers in (
      subst (λ (z : Round). Fits g.row.P.Denot (record r { standing = c.make.new.self; round = z }) c.grow.new.self.nodes) (sym grown.0)
          (fits_making r c.self.inside.rounds.nodes c.make.new.self c.make.result c.self.invariant.0 c.grow.new.self.nodes c.args.name c.args.terms
          c.watchers.ensures (omega (arith, nodes)) (omega (arith, nodes, numbers)) c.make.ensures.made c.make.ensures.same),
      (λ on. absurd (false≢true on), λ on. absurd (false≢true on)),
    )
