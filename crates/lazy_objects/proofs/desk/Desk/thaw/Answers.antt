use Rattle.std.proofs.Common.{◌≡◌, true, sym, ◌∙◌, ap, subst}
use Rattle.std.specs.Prelude.{is_some}
use Rattle.desk_model.specs.State.{State}
use Rattle.desk_model.specs.Links.{is_lazy_at}
use Rattle.desk_model.specs.Sound.{IsSound, KeepsCurrent}
use Rattle.desk_model.specs.Effect.{thawed}
use Rattle.object_store.specs.Market.{market_in, state_in}
use Rattle.object_store.specs.Shape.{role_at}
use Rattle.object_store.specs.Store.{StoreView}
use Rattle.object_store.proofs.Joined.{lazy_there}
use Rattle.lazy_objects.proofs.Flagged.{thawed_left, idle_left}
use Rattle.lazy_objects.proofs.desk.Desk.thaw.Goals as goal

pub thaw-requires : goal.thaw-requires
thaw-requires c =
    let lazy = subst (λ (t : State). is_lazy_at t.market c.args.object ≡ true) (sym c.self.view_is) c.requires.lazy in
    lazy_there (market_in c.self.inside.market) c.self.inside.books.store.shape c.self.invariant.1 c.args.object lazy

pub changed-requires : goal.changed-requires
changed-requires c =
    let lazy = subst (λ (t : State). is_lazy_at t.market c.args.object ≡ true) (sym c.self.view_is) c.requires.lazy in
    ap (λ (v : StoreView). is_some (role_at v.shape c.args.object)) (c.thaw.ensures.thawed c.if-thaw.true)
    ∙ ap is_some (lazy_there (market_in c.self.inside.market) c.self.inside.books.store.shape c.self.invariant.1 c.args.object lazy)

pub invariant_of-self : goal.invariant_of-self
invariant_of-self c =
    let lazy = subst (λ (t : State). is_lazy_at t.market c.args.object ≡ true) (sym c.self.view_is) c.requires.lazy in
    let d = thawed_left c.self.inside.market.today c.self.inside.market.objects c.self.inside.books.store c.changed.new.self c.self.inside.books.scratch c.self.invariant.0 c.self.invariant.1 c.args.object lazy c.thaw.new.self (sym c.thaw.ensures.answer ∙ c.if-thaw.true) (c.thaw.ensures.thawed c.if-thaw.true)
    (record { switch = c.changed.ensures.switch; held = c.changed.ensures.held; told = c.changed.ensures.told }) in
    (d.changed.stands, d.joined)

pub returns-then-thaw-clause-set : goal.returns-then-thaw-clause-set
returns-then-thaw-clause-set c =
    let lazy = subst (λ (t : State). is_lazy_at t.market c.args.object ≡ true) (sym c.self.view_is) c.requires.lazy in
    let d = thawed_left c.self.inside.market.today c.self.inside.market.objects c.self.inside.books.store c.changed.new.self c.self.inside.books.scratch c.self.invariant.0 c.self.invariant.1 c.args.object lazy c.thaw.new.self (sym c.thaw.ensures.answer ∙ c.if-thaw.true) (c.thaw.ensures.thawed c.if-thaw.true)
    (record { switch = c.changed.ensures.switch; held = c.changed.ensures.held; told = c.changed.ensures.told }) in
    d.changed.state ∙ ap (thawed c.args.object) c.self.view_is

pub returns-then-thaw-clause-keeps : goal.returns-then-thaw-clause-keeps
returns-then-thaw-clause-keeps c =
    let lazy = subst (λ (t : State). is_lazy_at t.market c.args.object ≡ true) (sym c.self.view_is) c.requires.lazy in
    let d = thawed_left c.self.inside.market.today c.self.inside.market.objects c.self.inside.books.store c.changed.new.self c.self.inside.books.scratch c.self.invariant.0 c.self.invariant.1 c.args.object lazy c.thaw.new.self (sym c.thaw.ensures.answer ∙ c.if-thaw.true) (c.thaw.ensures.thawed c.if-thaw.true)
    (record { switch = c.changed.ensures.switch; held = c.changed.ensures.held; told = c.changed.ensures.told }) in
    subst (λ (t : State). KeepsCurrent t (state_in c.self.inside.market c.changed.new.self)) c.self.view_is d.changed.keeps

pub returns-then-thaw-clause-sound : goal.returns-then-thaw-clause-sound
returns-then-thaw-clause-sound c calc sound =
    let lazy = subst (λ (t : State). is_lazy_at t.market c.args.object ≡ true) (sym c.self.view_is) c.requires.lazy in
    let d = thawed_left c.self.inside.market.today c.self.inside.market.objects c.self.inside.books.store c.changed.new.self c.self.inside.books.scratch c.self.invariant.0 c.self.invariant.1 c.args.object lazy c.thaw.new.self (sym c.thaw.ensures.answer ∙ c.if-thaw.true) (c.thaw.ensures.thawed c.if-thaw.true)
    (record { switch = c.changed.ensures.switch; held = c.changed.ensures.held; told = c.changed.ensures.told }) in
    d.changed.sound calc (subst (IsSound calc) (sym c.self.view_is) sound)

pub invariant_of-self-else-thaw : goal.invariant_of-self-else-thaw
invariant_of-self-else-thaw c =
    let lazy = subst (λ (t : State). is_lazy_at t.market c.args.object ≡ true) (sym c.self.view_is) c.requires.lazy in
    let d = idle_left c.self.inside.market.today c.self.inside.market.objects c.self.inside.books.store c.thaw.new.self c.self.inside.books.scratch c.self.invariant.0 c.self.invariant.1 c.args.object lazy (sym c.thaw.ensures.answer ∙ c.if-thaw.false) (c.thaw.ensures.same c.if-thaw.false) in
    (d.changed.stands, d.joined)

pub returns-else-thaw-clause-set : goal.returns-else-thaw-clause-set
returns-else-thaw-clause-set c =
    let lazy = subst (λ (t : State). is_lazy_at t.market c.args.object ≡ true) (sym c.self.view_is) c.requires.lazy in
    let d = idle_left c.self.inside.market.today c.self.inside.market.objects c.self.inside.books.store c.thaw.new.self c.self.inside.books.scratch c.self.invariant.0 c.self.invariant.1 c.args.object lazy (sym c.thaw.ensures.answer ∙ c.if-thaw.false) (c.thaw.ensures.same c.if-thaw.false) in
    d.changed.state ∙ ap (thawed c.args.object) c.self.view_is

pub returns-else-thaw-clause-keeps : goal.returns-else-thaw-clause-keeps
returns-else-thaw-clause-keeps c =
    let lazy = subst (λ (t : State). is_lazy_at t.market c.args.object ≡ true) (sym c.self.view_is) c.requires.lazy in
    let d = idle_left c.self.inside.market.today c.self.inside.market.objects c.self.inside.books.store c.thaw.new.self c.self.inside.books.scratch c.self.invariant.0 c.self.invariant.1 c.args.object lazy (sym c.thaw.ensures.answer ∙ c.if-thaw.false) (c.thaw.ensures.same c.if-thaw.false) in
    subst (λ (t : State). KeepsCurrent t (state_in c.self.inside.market c.thaw.new.self)) c.self.view_is d.changed.keeps

pub returns-else-thaw-clause-sound : goal.returns-else-thaw-clause-sound
returns-else-thaw-clause-sound c calc sound =
    let lazy = subst (λ (t : State). is_lazy_at t.market c.args.object ≡ true) (sym c.self.view_is) c.requires.lazy in
    let d = idle_left c.self.inside.market.today c.self.inside.market.objects c.self.inside.books.store c.thaw.new.self c.self.inside.books.scratch c.self.invariant.0 c.self.invariant.1 c.args.object lazy (sym c.thaw.ensures.answer ∙ c.if-thaw.false) (c.thaw.ensures.same c.if-thaw.false) in
    d.changed.sound calc (subst (IsSound calc) (sym c.self.view_is) sound)
