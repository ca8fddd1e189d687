use Rattle.std.proofs.Common.{◌≡◌, ℕ, Option, false, refl, sym, ◌∙◌, ap, subst}
use Rattle.std.specs.Prelude.{is_some}
use Rattle.desk_model.specs.State.{is_late}
use Rattle.object_store.specs.Market.{state_in}
use Rattle.object_store.specs.Store.{StoreView}
use Rattle.ask_walk.specs.Recalcs.{Recalcs}
use Rattle.deferred_sources.specs.declared.deferral.Deferral.{Deferral}
use Rattle.object_store.proofs.Lent.{seen, late}
use Rattle.object_store.proofs.Lateness.{late_there, least_is}
use Rattle.ask_walk.proofs.asking.Books.recalc.Goals as goal

pub rerun-answer-requires-clause-early : goal.rerun-answer-requires-clause-early
rerun-answer-requires-clause-early g c =
    subst (λ (v : StoreView). is_late (state_in c.args.market.now v) c.args.object ≡ false) (sym (ap (λ (d : Deferral). seen (record c.store.inside { deferral = d })) c.late.ensures.same ∙ c.store.view_is))
    (late_there (state_in c.args.market.now c.args.self.now.store) c.requires.may.whole c.args.self.now.store refl c.requires.joined c.args.object c.late.result (late c.store.inside c.store.invariant c.args.self.now.store c.store.view_is c.args.object c.late.result c.late.ensures.answer) ∙ ap (λ (r : Option ℕ). is_some r) c.in-None.is)

pub returns-in-Some-clause-ends : goal.returns-in-Some-clause-ends
returns-in-Some-clause-ends g c = (
  sym (least_is (state_in c.args.market.now c.args.self.now.store) c.requires.may.whole c.args.self.now.store refl c.requires.joined c.args.object c.late.result (late c.store.inside c.store.invariant c.args.self.now.store c.store.view_is c.args.object c.late.result c.late.ensures.answer)) ∙ c.in-Some.is,
  ap (state_in c.args.market.now) (ap (λ (d : Deferral). seen (record c.store.inside { deferral = d })) c.late.ensures.same ∙ c.store.view_is),
  refl,
  refl,
)

pub returns-in_ok-answer-in-None-clause-ends : goal.returns-in_ok-answer-in-None-clause-ends
returns-in_ok-answer-in-None-clause-ends g c = (
  sym (least_is (state_in c.args.market.now c.args.self.now.store) c.requires.may.whole c.args.self.now.store refl c.requires.joined c.args.object c.late.result (late c.store.inside c.store.invariant c.args.self.now.store c.store.view_is c.args.object c.late.result c.late.ensures.answer)) ∙ c.in-None.is,
  subst (λ (v : StoreView). Recalcs (g.B.Bench.calc c.args.bench.now) c.args.object (state_in c.args.market.now c.args.self.now.store) (state_in c.args.market.now v) c.in_ok-answer-in-None.field-0
      (g.B.Bench.count c.args.bench.now) (g.B.Bench.count c.rerun-answer.new.bench) (g.B.Bench.log c.args.bench.now) (g.B.Bench.log c.rerun-answer.new.bench)) (sym c.clear.ensures.store)
      (subst (λ (v : StoreView). Recalcs (g.B.Bench.calc c.args.bench.now) c.args.object (state_in c.args.market.now v) (state_in c.args.market.now c.rerun-answer.new.self.store) c.in_ok-answer-in-None.field-0
      (g.B.Bench.count c.args.bench.now) (g.B.Bench.count c.rerun-answer.new.bench) (g.B.Bench.log c.args.bench.now) (g.B.Bench.log c.rerun-answer.new.bench)) (ap (λ (d : Deferral). seen (record c.store.inside { deferral = d })) c.late.ensures.same ∙ c.store.view_is) c.in_ok-answer-in-None.ensures.recalcs),
)
