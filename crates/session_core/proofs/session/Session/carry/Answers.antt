use Rattle.std.proofs.Common.{◌≡◌, Result, Ok, Err, sym, ◌∙◌, subst}
use Rattle.std.specs.Prelude.{true}
use Rattle.std.proofs.lemmas.Bool.{false≢true}
use Rattle.session_commands.specs.declared.refusal.Refusal.{Refusal}
use Rattle.session_model.specs.declared.act.Act.{Act}
use Rattle.session_model.specs.Standing.{Standing}
use Rattle.session_model.specs.Turn.{turn}
use Rattle.session_core.specs.Allowed.{IsAllowed}
use Rattle.session_core.specs.Steps.{is_without_memory}
use Rattle.session_core.proofs.Resolved.{resolved_allowed}
use Rattle.session_core.proofs.Turns.{does_of, breaks_of, refused_does, ends_at_once, on_err_of}
use Rattle.session_core.proofs.session.Session.carry.Goals as goal

pub carry_out-requires-clause-allowed : goal.carry_out-requires-clause-allowed
carry_out-requires-clause-allowed g c =
    subst (λ (p : Standing). IsAllowed p c.in-Ok.act) (sym c.resolve.ensures.same)
    (resolved_allowed c.args.self.now c.args.command.now c.in-Ok.act c.requires.known (sym c.in-Ok.is ∙ c.resolve.ensures.act))

pub returns-in-Ok-clause-acts : goal.returns-in-Ok-clause-acts
unfolding turn
returns-in-Ok-clause-acts g c =
    does_of _ _ (Ok c.in-Ok.act) _ c.resolve.new.self _ _ _ _ _ _ _ _ c.carry_out.result c.resolve.ensures.same
    (sym c.in-Ok.is ∙ c.resolve.ensures.act) c.carry_out.ensures.steps

pub returns-in-Ok-clause-halts : goal.returns-in-Ok-clause-halts
unfolding turn
returns-in-Ok-clause-halts g c =
    breaks_of _ _ (Ok c.in-Ok.act) _ c.resolve.new.self _ _ _ _ _ _ _ _ c.carry_out.result c.resolve.ensures.same
    (sym c.in-Ok.is ∙ c.resolve.ensures.act) c.carry_out.ensures.stops

pub returns-in-Ok-clause-ends : goal.returns-in-Ok-clause-ends
returns-in-Ok-clause-ends g c = λ yes.
    c.carry_out.ensures.ends (subst (λ (r : Result Act Refusal). is_without_memory r ≡ true) (sym c.resolve.ensures.act ∙ c.in-Ok.is) yes)

pub returns-in-Err-clause-acts : goal.returns-in-Err-clause-acts
unfolding turn
returns-in-Err-clause-acts g c =
    does_of _ _ (Err c.in-Err.refusal) _ c.resolve.new.self _ _ _ _ _ _ _ _ c.refuse.result c.resolve.ensures.same
    (sym c.in-Err.is ∙ c.resolve.ensures.act)
    (refused_does (g.B.Bench.calc c.args.bench.now) c.args.command.now c.in-Err.refusal c.resolve.new.self _ _
    (g.B.Bench.count c.args.bench.now) (g.B.Bench.log c.args.bench.now) c.refuse.result c.refuse.ensures.ok)

pub returns-in-Err-clause-halts : goal.returns-in-Err-clause-halts
returns-in-Err-clause-halts g c =
    on_err_of c.refuse.result
    (λ none. ends_at_once _ _ c.args.self.now c.resolve.new.self c.args.lines.now.items c.refuse.new.lines.items
    (g.B.Bench.count c.args.bench.now) (g.B.Bench.log c.args.bench.now) c.resolve.ensures.same none)
    c.refuse.ensures.err

pub returns-in-Err-clause-ends : goal.returns-in-Err-clause-ends
returns-in-Err-clause-ends g c = λ yes.
    absurd (false≢true (subst (λ (r : Result Act Refusal). is_without_memory r ≡ true) (sym c.resolve.ensures.act ∙ c.in-Err.is) yes))
