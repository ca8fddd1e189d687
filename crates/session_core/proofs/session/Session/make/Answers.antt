use Rattle.std.proofs.Common.{sym, ◌∙◌}
use Rattle.session_core.proofs.Making.{answers_refused, answers_memory, taken_refuses, full_refuses, is_made}
use Rattle.session_core.proofs.session.Session.make.Goals as goal

pub returns-in_err-free-clause-answer : goal.returns-in_err-free-clause-answer
returns-in_err-free-clause-answer c =
    answers_refused _ c.from_residual.result c.in_err-free.field-0.0 c.from_residual.ensures.1
    (taken_refuses c.args.self.now c.args.name c.args.terms c.in_err-free.field-0.0
    (sym c.free.ensures ∙ c.in_err-free.was))

pub returns-in_err-room-clause-answer : goal.returns-in_err-room-clause-answer
returns-in_err-room-clause-answer c =
    answers_refused _ c.from_residual-in_err-room.result c.in_err-room.field-0.0 c.from_residual-in_err-room.ensures.1
    (full_refuses c.args.self.now c.args.name c.args.terms c.in_err-room.field-0.0
    (sym c.free.ensures ∙ c.in_ok-free.was) (sym c.room.ensures ∙ c.in_err-room.was))

pub returns-in_err-add-clause-answer : goal.returns-in_err-add-clause-answer
returns-in_err-add-clause-answer c =
    answers_memory _ c.from_residual-in_err-add.result c.from_residual-in_err-add.ensures.1
    (is_made c.args.self.now c.args.name c.args.terms (sym c.free.ensures ∙ c.in_ok-free.was)
    (sym c.room.ensures ∙ c.in_ok-room.was))

pub returns-clause-answer : goal.returns-clause-answer
returns-clause-answer c =
    is_made c.args.self.now c.args.name c.args.terms (sym c.free.ensures ∙ c.in_ok-free.was)
    (sym c.room.ensures ∙ c.in_ok-room.was)
