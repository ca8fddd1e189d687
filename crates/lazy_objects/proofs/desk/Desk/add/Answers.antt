use Rattle.std.proofs.Common.{◌<◌, ◌^◌, ◌≤◌, ℕ, List, [], ◌∷◌, ◌++◌, length, Some, None, sym, ◌∙◌, ap, subst, arith}
use Rattle.std.specs.Prelude.{Option}
use Rattle.std.proofs.lemmas.Result.{err_from_is_err_and}
use Rattle.walks.specs.Walk.{Among}
use Rattle.desk_model.specs.declared.entry.Entry.{Entry}
use Rattle.desk_model.specs.Market.{role_of}
use Rattle.desk_model.specs.State.{State}
use Rattle.desk_model.specs.Links.{AreOfKind}
use Rattle.desk_model.specs.Sound.{IsSound, KeepsCurrent}
use Rattle.desk_model.specs.Effect.{made}
use Rattle.desk_model.proofs.KindsKept.{may_be_made}
use Rattle.object_store.specs.Market.{market_in, state_in}
use Rattle.object_store.specs.Slots.{state_of}
use Rattle.object_store.specs.Shape.{node_role, vacancies}
use Rattle.object_store.specs.Store.{registry_of, AddsObject}
use Rattle.object_store.proofs.Joined.{few_vacancies, may_watch}
use Rattle.lazy_objects.specs.Stands.{Stands}
use Rattle.lazy_objects.proofs.Added.{spared_joined, spared_long, spared_same, spared_left, spared_added, spared_more, reserved_stands}
use Rattle.lazy_objects.proofs.Ends.{add_stands, add_keeps, add_sound, empty_grown, keeps_same}
use Rattle.lazy_objects.proofs.desk.Desk.add.Goals as goal

pub make_room-requires : goal.make_room-requires
make_room-requires c =
    let r = subst (λ (t : State). length t.market.objects < 2 ^ 16) (sym c.self.view_is) c.requires.room in
    record { few = subst (λ (n : ℕ). n < 2 ^ 16) (sym c.len-2.ensures) r }

pub add-requires-clause-live : goal.add-requires-clause-live
add-requires-clause-live c = λ x a.
    let s = state_in c.self.inside.market c.self.inside.books.store in
    may_watch (market_in c.self.inside.market) c.make_room.new.store.shape
    (spared_joined c.self.inside.market.today c.self.inside.market.objects c.self.inside.books.store c.make_room.new.store c.self.invariant.1 c.self.invariant.0.whole.length c.in_ok-make_room.ensures.spares c.make_room.ensures.more) c.args.terms
    (may_be_made s c.self.invariant.0.whole c.args.terms (subst (λ (t : State). AreOfKind t.market (Some c.args.terms)) (sym c.self.view_is) c.requires.kinds)) x
    (subst (Among x) (c.deref.ensures.value ∙ c.in_ok-watched.ensures) a)

pub add-requires-clause-room : goal.add-requires-clause-room
add-requires-clause-room c =
    let r = subst (λ (t : State). length t.market.objects < 2 ^ 16) (sym c.self.view_is) c.requires.room in
    let w = spared_long c.self.inside.market.today c.self.inside.market.objects c.self.inside.books.store c.make_room.new.store c.self.invariant.1 c.self.invariant.0.whole.length c.in_ok-make_room.ensures.spares c.make_room.ensures.more in omega (arith, r, w)

pub invariant_of-self-2 : goal.invariant_of-self-2
invariant_of-self-2 c =
    let s = state_in c.self.inside.market c.self.inside.books.store in
    let adds = subst (λ (l : List ℕ). AddsObject (node_role (role_of (Some c.args.terms))) l c.make_room.new.store c.add.new.store) (c.deref.ensures.value ∙ c.in_ok-watched.ensures) c.in_ok-add.ensures.added in
    let entries = c.grow.ensures.entries ∙ ap (λ (l : List (Option Entry)). l ++ None ∷ []) c.in_ok-reserve.ensures.entries in (
      subst (λ (t : State). Stands t c.grow.new.self) (sym (spared_added c.self.inside.market.today c.self.inside.market.objects c.self.inside.books.store c.make_room.new.store c.self.invariant.1 c.self.invariant.0.whole.length c.in_ok-make_room.ensures.spares c.make_room.ensures.more
          c.add.new.self c.args.terms c.add.new.store adds c.in_ok-add.ensures.made))
          (add_stands s c.self.inside.books.scratch c.grow.new.self c.args.terms c.self.invariant.0 c.requires.ranged (subst (λ (t : State). AreOfKind t.market (Some c.args.terms)) (sym c.self.view_is) c.requires.kinds)
          (subst (λ (t : State). length t.market.objects < 2 ^ 16) (sym c.self.view_is) c.requires.room) (empty_grown (length s.market.objects) c.self.inside.books.scratch c.grow.new.self c.self.invariant.0.empty entries (c.grow.ensures.touched ∙ c.in_ok-reserve.ensures.touched))),
      spared_more c.self.inside.market.today c.self.inside.market.objects c.self.inside.books.store c.make_room.new.store c.self.invariant.1 c.self.invariant.0.whole.length c.in_ok-make_room.ensures.spares c.make_room.ensures.more
          c.add.new.self c.args.terms c.add.new.store adds c.in_ok-add.ensures.made
          (c.in_ok-make_room.ensures.room (vacancies c.self.inside.market.objects) c.self.invariant.1.room (subst (λ (n : ℕ). vacancies c.self.inside.market.objects ≤ n) (sym c.len-2.ensures) (few_vacancies c.self.inside.market.objects))),
    )

pub returns-clause-added : goal.returns-clause-added
returns-clause-added c =
    let adds = subst (λ (l : List ℕ). AddsObject (node_role (role_of (Some c.args.terms))) l c.make_room.new.store c.add.new.store) (c.deref.ensures.value ∙ c.in_ok-watched.ensures) c.in_ok-add.ensures.added in
    spared_added c.self.inside.market.today c.self.inside.market.objects c.self.inside.books.store c.make_room.new.store c.self.invariant.1 c.self.invariant.0.whole.length c.in_ok-make_room.ensures.spares c.make_room.ensures.more
    c.add.new.self c.args.terms c.add.new.store adds c.in_ok-add.ensures.made ∙ ap (made c.args.terms) c.self.view_is

pub returns-clause-keeps : goal.returns-clause-keeps
returns-clause-keeps c =
    let s = state_in c.self.inside.market c.self.inside.books.store in
    let adds = subst (λ (l : List ℕ). AddsObject (node_role (role_of (Some c.args.terms))) l c.make_room.new.store c.add.new.store) (c.deref.ensures.value ∙ c.in_ok-watched.ensures) c.in_ok-add.ensures.added in
    subst (λ (t : State). KeepsCurrent t (state_of c.self.inside.market.today c.add.new.self c.add.new.store.kept (registry_of c.add.new.store))) c.self.view_is
    (subst (KeepsCurrent s) (sym (spared_added c.self.inside.market.today c.self.inside.market.objects c.self.inside.books.store c.make_room.new.store c.self.invariant.1 c.self.invariant.0.whole.length c.in_ok-make_room.ensures.spares c.make_room.ensures.more
    c.add.new.self c.args.terms c.add.new.store adds c.in_ok-add.ensures.made))
    (add_keeps s c.self.inside.books.scratch c.grow.new.self c.args.terms c.self.invariant.0 c.requires.ranged (subst (λ (t : State). AreOfKind t.market (Some c.args.terms)) (sym c.self.view_is) c.requires.kinds)).current)

pub returns-clause-sound : goal.returns-clause-sound
returns-clause-sound c calc sound =
    let s = state_in c.self.inside.market c.self.inside.books.store in
    let adds = subst (λ (l : List ℕ). AddsObject (node_role (role_of (Some c.args.terms))) l c.make_room.new.store c.add.new.store) (c.deref.ensures.value ∙ c.in_ok-watched.ensures) c.in_ok-add.ensures.added in
    subst (IsSound calc) (sym (spared_added c.self.inside.market.today c.self.inside.market.objects c.self.inside.books.store c.make_room.new.store c.self.invariant.1 c.self.invariant.0.whole.length c.in_ok-make_room.ensures.spares c.make_room.ensures.more
    c.add.new.self c.args.terms c.add.new.store adds c.in_ok-add.ensures.made))
    (add_sound s c.self.inside.books.scratch c.grow.new.self c.args.terms c.self.invariant.0 c.requires.ranged (subst (λ (t : State). AreOfKind t.market (Some c.args.terms)) (sym c.self.view_is) c.requires.kinds) calc (subst (IsSound calc) (sym c.self.view_is) sound))

pub invariant_of-self-in_err-add : goal.invariant_of-self-in_err-add
invariant_of-self-in_err-add c =
    let s = state_in c.self.inside.market c.self.inside.books.store in
    let same = spared_same c.self.inside.market.today c.self.inside.market.objects c.self.inside.books.store c.make_room.new.store c.self.invariant.1 c.self.invariant.0.whole.length c.in_ok-make_room.ensures.spares c.make_room.ensures.more
    c.add.new.self c.add.new.store c.in_err-add.ensures.same c.in_err-add.ensures.unstored in
    let joined = spared_left c.self.inside.market.today c.self.inside.market.objects c.self.inside.books.store c.make_room.new.store c.self.invariant.1 c.self.invariant.0.whole.length c.in_ok-make_room.ensures.spares c.make_room.ensures.more
    c.add.new.self c.add.new.store c.in_err-add.ensures.same c.in_err-add.ensures.unstored in (
      subst (λ (t : State). Stands t c.reserve.new.self) (sym same) (reserved_stands s c.self.inside.books.scratch c.reserve.new.self c.self.invariant.0 c.in_ok-reserve.ensures.entries c.in_ok-reserve.ensures.touched),
      joined,
    )

pub returns-in_err-add-clause-same : goal.returns-in_err-add-clause-same
returns-in_err-add-clause-same c =
    let same = spared_same c.self.inside.market.today c.self.inside.market.objects c.self.inside.books.store c.make_room.new.store c.self.invariant.1 c.self.invariant.0.whole.length c.in_ok-make_room.ensures.spares c.make_room.ensures.more
    c.add.new.self c.add.new.store c.in_err-add.ensures.same c.in_err-add.ensures.unstored in
    let e = err_from_is_err_and c.from_residual-in_err-add.result c.from_residual-in_err-add.ensures.1 in
    rw e.1 (same ∙ c.self.view_is)

pub returns-in_err-add-clause-keeps : goal.returns-in_err-add-clause-keeps
returns-in_err-add-clause-keeps c =
    let s = state_in c.self.inside.market c.self.inside.books.store in
    let same = spared_same c.self.inside.market.today c.self.inside.market.objects c.self.inside.books.store c.make_room.new.store c.self.invariant.1 c.self.invariant.0.whole.length c.in_ok-make_room.ensures.spares c.make_room.ensures.more
    c.add.new.self c.add.new.store c.in_err-add.ensures.same c.in_err-add.ensures.unstored in
    subst (KeepsCurrent c.args.self.now) (sym (same ∙ c.self.view_is)) (subst (λ (t : State). KeepsCurrent t t) c.self.view_is (keeps_same s c.self.inside.books.scratch c.self.invariant.0))

pub returns-in_err-add-clause-sound : goal.returns-in_err-add-clause-sound
returns-in_err-add-clause-sound c calc sound =
    let same = spared_same c.self.inside.market.today c.self.inside.market.objects c.self.inside.books.store c.make_room.new.store c.self.invariant.1 c.self.invariant.0.whole.length c.in_ok-make_room.ensures.spares c.make_room.ensures.more
    c.add.new.self c.add.new.store c.in_err-add.ensures.same c.in_err-add.ensures.unstored in
    subst (IsSound calc) (sym (same ∙ c.self.view_is)) sound
