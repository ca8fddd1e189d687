use Rattle.std.proofs.Common.{◌≡◌, Result, sym, ◌∙◌, ap, subst}
use Rattle.std.specs.Prelude.{IfOk}
use Rattle.desk_model.specs.Sound.{IsSound}
use Rattle.session_commands.specs.declared.refusal.Refusal.{Refusal}
use Rattle.session_model.specs.declared.act.Act.{Act}
use Rattle.session_model.specs.Standing.{Standing}
use Rattle.session_model.specs.Quiet.{is_quiet, is_quiet_act}
use Rattle.session_model.specs.Turn.{effect_of}
use Rattle.session_model.proofs.Quieted.{quiet_as}
use Rattle.session_core.specs.Allowed.{IsAllowed}
use Rattle.session_core.proofs.Resolved.{allowed}
use Rattle.session_core.proofs.Turns.{act_turns, refusal_turns}
use Rattle.session_core.proofs.session.Session.change.Goals as goal

pub carry_change-requires-clause-quiet : goal.carry_change-requires-clause-quiet
carry_change-requires-clause-quiet c =
    subst (λ (r : Result Act Refusal). IfOk r (λ a. is_quiet_act a ≡ is_quiet c.args.command.now)) (sym c.resolve.ensures.act ∙ c.in-Ok.is)
    (quiet_as c.args.self.now c.args.command.now) ∙ c.requires.quiet

pub carry_change-requires-clause-allowed : goal.carry_change-requires-clause-allowed
carry_change-requires-clause-allowed c =
    subst (λ (p : Standing). IsAllowed p c.in-Ok.act) (sym c.resolve.ensures.same)
    (subst (λ (r : Result Act Refusal). IfOk r (IsAllowed c.args.self.now)) (sym c.resolve.ensures.act ∙ c.in-Ok.is)
    (allowed c.args.self.now c.args.command.now c.requires.known))

pub returns-in-Ok-clause-turns : goal.returns-in-Ok-clause-turns
returns-in-Ok-clause-turns c = λ calc.
    act_turns calc c.args.self.now c.carry_change.new.self c.args.command.now c.in-Ok.act (sym c.resolve.ensures.act ∙ c.in-Ok.is)
    (c.carry_change.ensures.next calc ∙ ap (λ (p : Standing). (effect_of calc p c.in-Ok.act).next) c.resolve.ensures.same)

pub returns-in-Err-clause-turns : goal.returns-in-Err-clause-turns
returns-in-Err-clause-turns c = λ calc.
    c.resolve.ensures.same
    ∙ refusal_turns calc c.args.self.now c.args.command.now c.in-Err.refusal (sym c.resolve.ensures.act ∙ c.in-Err.is)

pub returns-in-Ok-clause-sound : goal.returns-in-Ok-clause-sound
returns-in-Ok-clause-sound c = λ calc sound.
    c.carry_change.ensures.sound calc (subst (λ (p : Standing). IsSound calc p.state) (sym c.resolve.ensures.same) sound)
