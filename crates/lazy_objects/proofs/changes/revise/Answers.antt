use Rattle.std.proofs.Common.{List, sym, ◌∙◌, ap, subst}
use Rattle.std.specs.Prelude.{slice_index_or}
use Rattle.std.proofs.lemmas.List.{get_or-set_same}
use Rattle.desk_model.specs.declared.slot.Slot.{Slot}
use Rattle.desk_model.specs.declared.slot.Slot.TheVariants.{Live, Free}
use Rattle.desk_model.specs.Market.{is_given}
use Rattle.desk_model.specs.Links.{CanTell}
use Rattle.object_store.specs.Slots.{market_of, state_of}
use Rattle.object_store.specs.Store.{registry_of}
use Rattle.object_store.specs.Shape.{registrations_of, IsJoined}
use Rattle.object_store.proofs.Telling.{revised_told}
use Rattle.lazy_objects.proofs.changes.revise.Goals as goal

pub tell_changed-requires-clause-live : goal.tell_changed-requires-clause-live
tell_changed-requires-clause-live c = ap (λ (l : List Slot). is_given (slice_index_or l c.args.object Free)) c.replace.ensures
    ∙ ap is_given (get_or-set_same c.args.market.now.objects c.args.object (Live c.args.terms) Free c.requires.within)

pub tell_changed-requires-clause-joined : goal.tell_changed-requires-clause-joined
tell_changed-requires-clause-joined c = subst (λ (l : List Slot). IsJoined (market_of c.args.market.now.today l) c.args.store.now.shape) (sym c.replace.ensures) c.requires.joined

pub tell_changed-requires-clause-told : goal.tell_changed-requires-clause-told
tell_changed-requires-clause-told c = subst (λ (l : List Slot). CanTell (market_of c.args.market.now.today l) (registrations_of c.args.store.now.shape) c.args.store.now.noticed) (sym c.replace.ensures) c.requires.told

pub returns-clause-state : goal.returns-clause-state
returns-clause-state c =
    revised_told c.args.market.now.today c.args.market.now.objects c.replace.new.self c.args.store.now.kept (registry_of c.args.store.now) (state_of c.args.market.now.today c.replace.new.self c.tell_changed.new.store.kept (registry_of c.tell_changed.new.store)) c.args.object c.args.terms
    c.replace.ensures c.tell_changed.ensures.state
