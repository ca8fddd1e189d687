use Rattle.std.proofs.Common.{◌≡◌, Result, Ok, Some, refl, sym, ◌∙◌, subst}
use Rattle.std.specs.Prelude.{true}
use Rattle.std.proofs.lemmas.Bool.{false≢true}
use Rattle.session_commands.specs.declared.refusal.Refusal.{Refusal}
use Rattle.session_model.specs.declared.act.Act.{Act}
use Rattle.session_model.specs.declared.act.Act.TheVariants as act
use Rattle.session_model.specs.declared.act.Change.TheVariants as change
use Rattle.session_model.specs.declared.act.How.TheVariants as how
use Rattle.session_model.specs.Turn.{turn}
use Rattle.session_core.specs.Steps.{is_without_memory}
use Rattle.session_core.proofs.Resolved.{ask_resolves, resolved_allowed, set_resolves}
use Rattle.session_core.proofs.Turns.{change_acts, does_of, breaks_of}
use Rattle.session_core.proofs.session.Session.turn.Goals as goal

pub apply-requires : goal.apply-requires
apply-requires g c = record {
  may = resolved_allowed c.args.self.now c.args.command.now _ c.requires.known
      (set_resolves c.args.self.now c.args.command.now c.in-Set.quote c.in-Some.object c.in-Set.value c.in-Set.is
      (sym c.named.ensures ∙ c.in-Some.is) (sym c.is_quote.ensures ∙ c.if-is_quote.true));
}

pub returns-clause-acts : goal.returns-clause-acts
returns-clause-acts g c =
    change_acts (g.B.Bench.calc c.args.bench.now) c.args.self.now c.apply.new.self c.args.command.now
    (change.Set c.in-Some.object (Some c.in-Set.value)) c.args.lines.now.items (g.B.Bench.count c.args.bench.now)
    (g.B.Bench.log c.args.bench.now)
    (set_resolves c.args.self.now c.args.command.now c.in-Set.quote c.in-Some.object c.in-Set.value c.in-Set.is
    (sym c.named.ensures ∙ c.in-Some.is) (sym c.is_quote.ensures ∙ c.if-is_quote.true)) c.apply.ensures.set

pub returns-clause-sound : goal.returns-clause-sound
returns-clause-sound g c = c.apply.ensures.sound (g.B.Bench.calc c.args.bench.now) c.requires.sound

pub price-requires-clause-may : goal.price-requires-clause-may
price-requires-clause-may g c =
    resolved_allowed c.args.self.now c.args.command.now _ c.requires.known
    (ask_resolves c.args.self.now c.args.command.now c.in-Ask.name c.in-Some-named.object c.in-Ask.is
    (sym c.named-2.ensures ∙ c.in-Some-named.is) (sym c.is_priced.ensures ∙ c.if-is_priced.true))

pub returns-2-clause-acts : goal.returns-2-clause-acts
unfolding turn
returns-2-clause-acts g c =
    does_of _ _ (Ok (act.Price c.in-Ask.name c.in-Some-named.object how.Ask)) _ c.args.self.now _ _ _ _ _ _ _ _ c.price.result refl
    (ask_resolves c.args.self.now c.args.command.now c.in-Ask.name c.in-Some-named.object c.in-Ask.is
    (sym c.named-2.ensures ∙ c.in-Some-named.is) (sym c.is_priced.ensures ∙ c.if-is_priced.true)) c.price.ensures.steps

pub returns-2-clause-halts : goal.returns-2-clause-halts
unfolding turn
returns-2-clause-halts g c =
    breaks_of _ _ (Ok (act.Price c.in-Ask.name c.in-Some-named.object how.Ask)) _ c.args.self.now _ _ _ _ _ _ _ _ c.price.result refl
    (ask_resolves c.args.self.now c.args.command.now c.in-Ask.name c.in-Some-named.object c.in-Ask.is
    (sym c.named-2.ensures ∙ c.in-Some-named.is) (sym c.is_priced.ensures ∙ c.if-is_priced.true)) c.price.ensures.stops

pub returns-2-clause-ends : goal.returns-2-clause-ends
returns-2-clause-ends g c = λ yes.
    absurd (false≢true (subst (λ (r : Result Act Refusal). is_without_memory r ≡ true)
    (sym (ask_resolves c.args.self.now c.args.command.now c.in-Ask.name c.in-Some-named.object c.in-Ask.is
    (sym c.named-2.ensures ∙ c.in-Some-named.is) (sym c.is_priced.ensures ∙ c.if-is_priced.true))) yes))
