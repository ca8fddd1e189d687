use Rattle.std.proofs.Common.{◌≡◌, sym, ◌∙◌, ap, subst}
use Rattle.desk_model.specs.Market.{is_given}
use Rattle.desk_model.specs.State.{State}
use Rattle.desk_model.specs.Sound.{IsSound, KeepsCurrent}
use Rattle.desk_model.specs.Effect.{today_set}
use Rattle.object_store.specs.Market.{market_in}
use Rattle.object_store.specs.Slots.{market_of, state_of}
use Rattle.object_store.specs.Store.{registry_of}
use Rattle.object_store.specs.Shape.{Shape, IsJoined}
use Rattle.object_store.proofs.Joined.{there_given}
use Rattle.object_store.proofs.Telling.{tells_shape}
use Rattle.lazy_objects.proofs.Commanded.{joined_day, day_told, today_same, today_changed}
use Rattle.lazy_objects.proofs.desk.Desk.set_today.Goals as goal

pub returns-then-eq-clause-set : goal.returns-then-eq-clause-set
returns-then-eq-clause-set c =
    subst (λ (s : State). s ≡ today_set c.args.day s) c.self.view_is
    (today_same c.self.inside.market.today c.self.inside.market.objects c.self.inside.books.store.kept (registry_of c.self.inside.books.store) c.self.inside.books.scratch c.self.invariant.0 c.args.day (sym c.eq.ensures ∙ c.if-eq.true))

pub changed-requires : goal.changed-requires
changed-requires c =
    there_given (market_in c.self.inside.market) c.self.inside.books.store.shape c.self.invariant.1 0 (ap is_given c.self.invariant.0.whole.today)

pub invariant_of-self : goal.invariant_of-self
invariant_of-self c =
    let e = day_told c.self.inside.market.today c.args.day c.self.inside.market.objects c.self.inside.books.store c.changed.new.self
    c.self.inside.books.scratch c.self.invariant.0 c.self.invariant.1 (record { switch = c.changed.ensures.switch; held = c.changed.ensures.held; told = c.changed.ensures.told }) in
    let d = today_changed c.self.inside.market.today c.self.inside.market.objects c.self.inside.books.store.kept (registry_of c.self.inside.books.store) c.self.inside.books.scratch c.self.invariant.0 c.args.day (state_of c.args.day c.self.inside.market.objects c.changed.new.self.kept (registry_of c.changed.new.self)) (sym c.eq.ensures ∙ c.if-eq.false) e in (
      d.stands,
      subst (λ (h : Shape). IsJoined (market_of c.args.day c.self.inside.market.objects) h) (sym (tells_shape 0 c.self.inside.books.store c.changed.new.self (record { switch = c.changed.ensures.switch; held = c.changed.ensures.held; told = c.changed.ensures.told })))
          (joined_day c.self.inside.market.today c.args.day c.self.inside.market.objects c.self.inside.books.store.shape c.self.invariant.1),
    )

pub returns-clause-set : goal.returns-clause-set
returns-clause-set c =
    let e = day_told c.self.inside.market.today c.args.day c.self.inside.market.objects c.self.inside.books.store c.changed.new.self
    c.self.inside.books.scratch c.self.invariant.0 c.self.invariant.1 (record { switch = c.changed.ensures.switch; held = c.changed.ensures.held; told = c.changed.ensures.told }) in
    let d = today_changed c.self.inside.market.today c.self.inside.market.objects c.self.inside.books.store.kept (registry_of c.self.inside.books.store) c.self.inside.books.scratch c.self.invariant.0 c.args.day (state_of c.args.day c.self.inside.market.objects c.changed.new.self.kept (registry_of c.changed.new.self)) (sym c.eq.ensures ∙ c.if-eq.false) e in
    d.state ∙ ap (today_set c.args.day) c.self.view_is

pub returns-clause-keeps : goal.returns-clause-keeps
returns-clause-keeps c =
    let e = day_told c.self.inside.market.today c.args.day c.self.inside.market.objects c.self.inside.books.store c.changed.new.self
    c.self.inside.books.scratch c.self.invariant.0 c.self.invariant.1 (record { switch = c.changed.ensures.switch; held = c.changed.ensures.held; told = c.changed.ensures.told }) in
    let d = today_changed c.self.inside.market.today c.self.inside.market.objects c.self.inside.books.store.kept (registry_of c.self.inside.books.store) c.self.inside.books.scratch c.self.invariant.0 c.args.day (state_of c.args.day c.self.inside.market.objects c.changed.new.self.kept (registry_of c.changed.new.self)) (sym c.eq.ensures ∙ c.if-eq.false) e in
    subst (λ (t : State). KeepsCurrent t (state_of c.args.day c.self.inside.market.objects c.changed.new.self.kept (registry_of c.changed.new.self))) c.self.view_is d.keeps

pub returns-clause-sound : goal.returns-clause-sound
returns-clause-sound c calc sound =
    let e = day_told c.self.inside.market.today c.args.day c.self.inside.market.objects c.self.inside.books.store c.changed.new.self
    c.self.inside.books.scratch c.self.invariant.0 c.self.invariant.1 (record { switch = c.changed.ensures.switch; held = c.changed.ensures.held; told = c.changed.ensures.told }) in
    let d = today_changed c.self.inside.market.today c.self.inside.market.objects c.self.inside.books.store.kept (registry_of c.self.inside.books.store) c.self.inside.books.scratch c.self.invariant.0 c.args.day (state_of c.args.day c.self.inside.market.objects c.changed.new.self.kept (registry_of c.changed.new.self)) (sym c.eq.ensures ∙ c.if-eq.false) e in
    d.sound calc (subst (IsSound calc) (sym c.self.view_is) sound)
