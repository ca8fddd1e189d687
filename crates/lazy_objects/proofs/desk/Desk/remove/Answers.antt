use Rattle.std.proofs.Common.{◌≡◌, true, None, sym, ◌∙◌, ap, subst}
use Rattle.desk_model.specs.Market.{is_given, slot_at, least_user}
use Rattle.desk_model.specs.State.{State}
use Rattle.desk_model.specs.Sound.{IsSound, KeepsCurrent}
use Rattle.desk_model.specs.Effect.{dropped}
use Rattle.object_store.specs.Slots.{state_of}
use Rattle.object_store.specs.Store.{registry_of}
use Rattle.lazy_objects.proofs.Dropped.{drops, given_within}
use Rattle.object_store.proofs.Joined.{joined_dropped}
use Rattle.lazy_objects.proofs.desk.Desk.remove.Goals as goal

pub invariant_of-self : goal.invariant_of-self
invariant_of-self c =
    let unused = subst (λ (t : State). least_user t.market c.args.object ≡ None) (sym c.self.view_is) c.requires.unused in
    let slots = c.remove.ensures in
    let d = drops c.self.inside.market.today c.self.inside.market.objects c.remove.new.self c.self.inside.books.store c.forget.new.self c.self.inside.books.scratch c.args.object c.self.invariant.0 c.requires.apart unused slots c.forget.ensures in
    let live = subst (λ (t : State). is_given (slot_at t.market c.args.object) ≡ true) (sym c.self.view_is) c.requires.live in (
      d.stands,
      joined_dropped c.self.inside.market.today c.self.inside.market.objects c.remove.new.self c.args.object c.self.inside.books.store c.forget.new.self c.self.invariant.1
          (given_within c.self.inside.market.objects c.args.object live) unused c.forget.ensures slots,
    )

pub returns-clause-removed : goal.returns-clause-removed
returns-clause-removed c =
    let unused = subst (λ (t : State). least_user t.market c.args.object ≡ None) (sym c.self.view_is) c.requires.unused in
    let slots = c.remove.ensures in
    let d = drops c.self.inside.market.today c.self.inside.market.objects c.remove.new.self c.self.inside.books.store c.forget.new.self c.self.inside.books.scratch c.args.object c.self.invariant.0 c.requires.apart unused slots c.forget.ensures in
    d.state ∙ ap (dropped c.args.object) c.self.view_is

pub returns-clause-keeps : goal.returns-clause-keeps
returns-clause-keeps c =
    let unused = subst (λ (t : State). least_user t.market c.args.object ≡ None) (sym c.self.view_is) c.requires.unused in
    let slots = c.remove.ensures in
    let d = drops c.self.inside.market.today c.self.inside.market.objects c.remove.new.self c.self.inside.books.store c.forget.new.self c.self.inside.books.scratch c.args.object c.self.invariant.0 c.requires.apart unused slots c.forget.ensures in
    subst (λ (t : State). KeepsCurrent t (state_of c.self.inside.market.today c.remove.new.self c.forget.new.self.kept (registry_of c.forget.new.self))) c.self.view_is d.keeps

pub returns-clause-sound : goal.returns-clause-sound
returns-clause-sound c calc sound =
    let unused = subst (λ (t : State). least_user t.market c.args.object ≡ None) (sym c.self.view_is) c.requires.unused in
    let slots = c.remove.ensures in
    let d = drops c.self.inside.market.today c.self.inside.market.objects c.remove.new.self c.self.inside.books.store c.forget.new.self c.self.inside.books.scratch c.args.object c.self.invariant.0 c.requires.apart unused slots c.forget.ensures in
    d.sound calc (subst (IsSound calc) (sym c.self.view_is) sound)
