use Rattle.std.proofs.Common.{◌≡◌, true, refl, sym, ◌∙◌, ap, subst}
use Rattle.std.specs.Prelude.{is_some}
use Rattle.desk_model.specs.State.{State, least_source}
use Rattle.desk_model.specs.Links.{is_lazy_at}
use Rattle.object_store.specs.Market.{market_in, state_in}
use Rattle.object_store.specs.Shape.{IsJoined}
use Rattle.object_store.specs.Store.{StoreView}
use Rattle.lazy_objects.specs.Stands.{Stands}
use Rattle.object_store.proofs.Joined.{lazy_there}
use Rattle.deferred_sources.specs.declared.deferral.Deferral.{Deferral}
use Rattle.object_store.proofs.Lent.{seen, live, late}
use Rattle.object_store.proofs.Lateness.{least_is}
use Rattle.lazy_objects.proofs.desk.Desk.late.Goals as goal

pub late-requires : goal.late-requires
late-requires c =
    let lazy = subst (λ (t : State). is_lazy_at t.market c.args.object ≡ true) (sym c.self.view_is) c.requires.lazy in
    live c.store.inside c.store.invariant c.self.inside.books.store c.store.view_is c.args.object (ap is_some (lazy_there (market_in c.self.inside.market) c.self.inside.books.store.shape c.self.invariant.1 c.args.object lazy))

same : (c : goal.After-late) → seen (record c.store.inside { deferral = c.late.new.self }) ≡ c.self.inside.books.store
same c = ap (λ (d : Deferral). seen (record c.store.inside { deferral = d })) c.late.ensures.same ∙ c.store.view_is

pub invariant_of-self : goal.invariant_of-self
invariant_of-self c = (
  subst (λ (v : StoreView). Stands (state_in c.self.inside.market v) c.self.inside.books.scratch) (sym (same c)) c.self.invariant.0,
  subst (λ (v : StoreView). IsJoined (market_in c.self.inside.market) v.shape) (sym (same c)) c.self.invariant.1,
)

pub returns-clause-answer : goal.returns-clause-answer
returns-clause-answer c = least_is (state_in c.self.inside.market c.self.inside.books.store) c.self.invariant.0.whole c.self.inside.books.store refl c.self.invariant.1 c.args.object c.late.result (late c.store.inside c.store.invariant c.self.inside.books.store c.store.view_is c.args.object c.late.result c.late.ensures.answer)
    ∙ ap (λ (t : State). least_source t c.args.object) c.self.view_is

pub returns-clause-same : goal.returns-clause-same
returns-clause-same c = ap (state_in c.self.inside.market) (same c) ∙ c.self.view_is
