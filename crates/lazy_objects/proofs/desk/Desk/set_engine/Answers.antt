use Rattle.std.proofs.Common.{arith, ◌≡◌, List, length, Some, sym, ◌∙◌, ap, subst}
use Rattle.std.proofs.lemmas.List.{length-set}
use Rattle.desk_terms.specs.declared.terms.Terms.TheVariants.{Flows}
use Rattle.desk_terms.specs.declared.kind.Kind.TheVariants as kind
use Rattle.desk_terms.specs.declared.kind.Wanted.TheVariants as wanted
use Rattle.desk_terms.specs.Terms.{optional_reference}
use Rattle.desk_model.specs.declared.kept.Kept.{Kept}
use Rattle.desk_model.specs.declared.slot.Slot.{Slot}
use Rattle.desk_model.specs.declared.slot.Slot.TheVariants.{Free, Live}
use Rattle.desk_model.specs.Market.{kind_at}
use Rattle.desk_model.specs.State.{State}
use Rattle.desk_model.specs.Links.{CanTell, Serve}
use Rattle.desk_model.specs.Sound.{IsSound, KeepsCurrent}
use Rattle.desk_model.specs.Effect.{engine_set}
use Rattle.object_store.specs.Market.{market_in}
use Rattle.object_store.specs.Slots.{market_of, state_of}
use Rattle.object_store.specs.Store.{registry_of}
use Rattle.object_store.specs.Shape.{registrations_of, IsJoined}
use Rattle.object_store.proofs.Telling.{given_set, kept_marks, no_marks}
use Rattle.lazy_objects.proofs.Revised.{tells_then, kind_within}
use Rattle.lazy_objects.proofs.Repriced.{moves_kept, priced_there, engine_watched, engine_new, engine_room, joined_repriced, engine_links, engine_left}
use Rattle.std.specs.Prelude.{slice_index_or}
use Rattle.object_store.proofs.Joined.{terms_watch}
use Rattle.lazy_objects.proofs.desk.Desk.set_engine.Goals as goal

pub watch_instead-requires-clause-watched : goal.watch_instead-requires-clause-watched
watch_instead-requires-clause-watched c =
    let instrument = subst (λ (t : State). kind_at t.market c.args.instrument ≡ Some kind.Flows) (sym c.self.view_is) c.requires.instrument in
    let f = priced_there (market_in c.self.inside.market) c.args.instrument instrument c.engine_of-held.result c.engine_of-held.ensures in
    engine_watched c.self.inside.market.today c.self.inside.market.objects c.args.instrument f.0 c.engine_of-held.result c.self.inside.books.store c.self.invariant.1 f.1 c.self.invariant.0.kinds c.self.invariant.0.whole.today

pub watch_instead-requires-clause-new : goal.watch_instead-requires-clause-new
watch_instead-requires-clause-new c =
    let instrument = subst (λ (t : State). kind_at t.market c.args.instrument ≡ Some kind.Flows) (sym c.self.view_is) c.requires.instrument in
    let serve = subst (λ (t : State). Serve t.market (optional_reference wanted.Engine c.args.engine)) (sym c.self.view_is) c.requires.engine in
    let f = priced_there (market_in c.self.inside.market) c.args.instrument instrument c.engine_of-held.result c.engine_of-held.ensures in
    engine_new c.self.inside.market.today c.self.inside.market.objects c.args.instrument f.0 c.engine_of-held.result c.self.inside.books.store c.self.invariant.1 f.1 c.self.invariant.0.kinds c.self.invariant.0.whole.today c.args.engine serve

pub watch_instead-requires-clause-room : goal.watch_instead-requires-clause-room
watch_instead-requires-clause-room c =
    let instrument = subst (λ (t : State). kind_at t.market c.args.instrument ≡ Some kind.Flows) (sym c.self.view_is) c.requires.instrument in
    let f = priced_there (market_in c.self.inside.market) c.args.instrument instrument c.engine_of-held.result c.engine_of-held.ensures in
    engine_room c.self.inside.market.today c.self.inside.market.objects c.args.instrument f.0 c.engine_of-held.result c.self.inside.books.store c.self.invariant.1 f.1 c.self.invariant.0.kinds c.self.invariant.0.whole.today
    (kind_within c.self.inside.market.objects c.self.inside.market.today c.args.instrument kind.Flows instrument)

pub tell_changed-requires-clause-live : goal.tell_changed-requires-clause-live
tell_changed-requires-clause-live c =
    let instrument = subst (λ (t : State). kind_at t.market c.args.instrument ≡ Some kind.Flows) (sym c.self.view_is) c.requires.instrument in
    let f = priced_there (market_in c.self.inside.market) c.args.instrument instrument c.engine_of-held.result c.engine_of-held.ensures in
    let are = c.set_engine.ensures f.0 c.engine_of-held.result f.1 in
    given_set c.self.inside.market.objects c.set_engine.new.self c.args.instrument (Flows f.0 c.args.engine) are (kind_within c.self.inside.market.objects c.self.inside.market.today c.args.instrument kind.Flows instrument)

pub tell_changed-requires-clause-joined : goal.tell_changed-requires-clause-joined
tell_changed-requires-clause-joined c =
    let instrument = subst (λ (t : State). kind_at t.market c.args.instrument ≡ Some kind.Flows) (sym c.self.view_is) c.requires.instrument in
    let f = priced_there (market_in c.self.inside.market) c.args.instrument instrument c.engine_of-held.result c.engine_of-held.ensures in
    let are = c.set_engine.ensures f.0 c.engine_of-held.result f.1 in
    subst (λ (l : List Slot). IsJoined (market_of c.self.inside.market.today l) c.watch_instead.new.store.shape) (sym are)
    (joined_repriced c.self.inside.market.today c.self.inside.market.objects c.args.instrument f.0 c.engine_of-held.result c.self.inside.books.store c.self.invariant.1 f.1 c.self.invariant.0.kinds c.self.invariant.0.whole.today c.args.engine c.watch_instead.new.store (kind_within c.self.inside.market.objects c.self.inside.market.today c.args.instrument kind.Flows instrument) c.watch_instead.ensures)

pub tell_changed-requires-clause-sources : goal.tell_changed-requires-clause-sources
tell_changed-requires-clause-sources c =
    let instrument = subst (λ (t : State). kind_at t.market c.args.instrument ≡ Some kind.Flows) (sym c.self.view_is) c.requires.instrument in
    let f = priced_there (market_in c.self.inside.market) c.args.instrument instrument c.engine_of-held.result c.engine_of-held.ensures in
    kept_marks c.self.inside.books.store c.watch_instead.new.store (moves_kept c.self.inside.market.today c.self.inside.market.objects c.args.instrument f.0 c.engine_of-held.result c.self.inside.books.store c.self.invariant.1 f.1 c.self.invariant.0.kinds c.self.invariant.0.whole.today c.args.engine c.watch_instead.new.store c.watch_instead.ensures)
    (no_marks c.self.inside.market.today c.self.inside.market.objects c.self.inside.books.store c.self.invariant.0.sources)

pub tell_changed-requires-clause-within : goal.tell_changed-requires-clause-within
tell_changed-requires-clause-within c =
    let instrument = subst (λ (t : State). kind_at t.market c.args.instrument ≡ Some kind.Flows) (sym c.self.view_is) c.requires.instrument in
    let f = priced_there (market_in c.self.inside.market) c.args.instrument instrument c.engine_of-held.result c.engine_of-held.ensures in
    let are = c.set_engine.ensures f.0 c.engine_of-held.result f.1 in
    let long = ap (λ (l : List Slot). length l) are ∙ length-set c.self.inside.market.objects c.args.instrument (Live (Flows f.0 c.args.engine)) in
    let within = kind_within c.self.inside.market.objects c.self.inside.market.today c.args.instrument kind.Flows instrument in
    omega (arith, long, within)

pub tell_changed-requires-clause-kept : goal.tell_changed-requires-clause-kept
tell_changed-requires-clause-kept c =
    let instrument = subst (λ (t : State). kind_at t.market c.args.instrument ≡ Some kind.Flows) (sym c.self.view_is) c.requires.instrument in
    let f = priced_there (market_in c.self.inside.market) c.args.instrument instrument c.engine_of-held.result c.engine_of-held.ensures in
    let are = c.set_engine.ensures f.0 c.engine_of-held.result f.1 in
    ap (λ (k : List Kept). length k) c.watch_instead.ensures.kept ∙ c.self.invariant.0.whole.length
    ∙ sym (ap (λ (l : List Slot). length l) are ∙ length-set c.self.inside.market.objects c.args.instrument (Live (Flows f.0 c.args.engine)))

pub tell_changed-requires-clause-told : goal.tell_changed-requires-clause-told
tell_changed-requires-clause-told c =
    let instrument = subst (λ (t : State). kind_at t.market c.args.instrument ≡ Some kind.Flows) (sym c.self.view_is) c.requires.instrument in
    let serve = subst (λ (t : State). Serve t.market (optional_reference wanted.Engine c.args.engine)) (sym c.self.view_is) c.requires.engine in
    let f = priced_there (market_in c.self.inside.market) c.args.instrument instrument c.engine_of-held.result c.engine_of-held.ensures in
    let are = c.set_engine.ensures f.0 c.engine_of-held.result f.1 in
    subst (λ (l : List Slot). CanTell (market_of c.self.inside.market.today l) (registrations_of c.watch_instead.new.store.shape) c.watch_instead.new.store.noticed) (sym are)
    (tells_then c.self.inside.market.today c.self.inside.market.objects c.args.instrument (Flows f.0 c.args.engine) (kind_within c.self.inside.market.objects c.self.inside.market.today c.args.instrument kind.Flows instrument)
    (terms_watch (slice_index_or c.self.inside.market.objects c.args.instrument Free) (Flows f.0 c.engine_of-held.result) f.1) c.self.inside.books.store c.watch_instead.new.store c.self.invariant.0.whole
    (moves_kept c.self.inside.market.today c.self.inside.market.objects c.args.instrument f.0 c.engine_of-held.result c.self.inside.books.store c.self.invariant.1 f.1 c.self.invariant.0.kinds c.self.invariant.0.whole.today c.args.engine c.watch_instead.new.store c.watch_instead.ensures).registry
    (engine_links c.self.inside.market.today c.self.inside.market.objects c.self.inside.books.store.kept (registry_of c.self.inside.books.store) c.self.inside.books.scratch c.self.invariant.0 c.args.instrument f.0 c.engine_of-held.result c.args.engine f.1 instrument serve))

pub invariant_of-self : goal.invariant_of-self
invariant_of-self c =
    let instrument = subst (λ (t : State). kind_at t.market c.args.instrument ≡ Some kind.Flows) (sym c.self.view_is) c.requires.instrument in
    let serve = subst (λ (t : State). Serve t.market (optional_reference wanted.Engine c.args.engine)) (sym c.self.view_is) c.requires.engine in
    let f = priced_there (market_in c.self.inside.market) c.args.instrument instrument c.engine_of-held.result c.engine_of-held.ensures in
    let are = c.set_engine.ensures f.0 c.engine_of-held.result f.1 in
    let d = engine_left c.self.inside.market.today c.self.inside.market.objects c.set_engine.new.self c.self.inside.books.store c.watch_instead.new.store c.tell_changed.new.store c.self.inside.books.scratch c.args.instrument f.0 c.engine_of-held.result c.args.engine
    c.self.invariant.0 c.self.invariant.1 f.1 instrument serve are c.watch_instead.ensures
    c.tell_changed.ensures.state c.tell_changed.ensures.shape in
    (d.changed.stands, d.joined)

pub returns-clause-set : goal.returns-clause-set
returns-clause-set c =
    let instrument = subst (λ (t : State). kind_at t.market c.args.instrument ≡ Some kind.Flows) (sym c.self.view_is) c.requires.instrument in
    let serve = subst (λ (t : State). Serve t.market (optional_reference wanted.Engine c.args.engine)) (sym c.self.view_is) c.requires.engine in
    let f = priced_there (market_in c.self.inside.market) c.args.instrument instrument c.engine_of-held.result c.engine_of-held.ensures in
    let are = c.set_engine.ensures f.0 c.engine_of-held.result f.1 in
    let d = engine_left c.self.inside.market.today c.self.inside.market.objects c.set_engine.new.self c.self.inside.books.store c.watch_instead.new.store c.tell_changed.new.store c.self.inside.books.scratch c.args.instrument f.0 c.engine_of-held.result c.args.engine
    c.self.invariant.0 c.self.invariant.1 f.1 instrument serve are c.watch_instead.ensures
    c.tell_changed.ensures.state c.tell_changed.ensures.shape in
    d.changed.state ∙ ap (engine_set c.args.instrument c.args.engine) c.self.view_is

pub returns-clause-keeps : goal.returns-clause-keeps
returns-clause-keeps c =
    let instrument = subst (λ (t : State). kind_at t.market c.args.instrument ≡ Some kind.Flows) (sym c.self.view_is) c.requires.instrument in
    let serve = subst (λ (t : State). Serve t.market (optional_reference wanted.Engine c.args.engine)) (sym c.self.view_is) c.requires.engine in
    let f = priced_there (market_in c.self.inside.market) c.args.instrument instrument c.engine_of-held.result c.engine_of-held.ensures in
    let are = c.set_engine.ensures f.0 c.engine_of-held.result f.1 in
    let d = engine_left c.self.inside.market.today c.self.inside.market.objects c.set_engine.new.self c.self.inside.books.store c.watch_instead.new.store c.tell_changed.new.store c.self.inside.books.scratch c.args.instrument f.0 c.engine_of-held.result c.args.engine
    c.self.invariant.0 c.self.invariant.1 f.1 instrument serve are c.watch_instead.ensures
    c.tell_changed.ensures.state c.tell_changed.ensures.shape in
    subst (λ (t : State). KeepsCurrent t (state_of c.self.inside.market.today c.set_engine.new.self c.tell_changed.new.store.kept (registry_of c.tell_changed.new.store))) c.self.view_is d.changed.keeps

pub returns-clause-sound : goal.returns-clause-sound
returns-clause-sound c calc sound =
    let instrument = subst (λ (t : State). kind_at t.market c.args.instrument ≡ Some kind.Flows) (sym c.self.view_is) c.requires.instrument in
    let serve = subst (λ (t : State). Serve t.market (optional_reference wanted.Engine c.args.engine)) (sym c.self.view_is) c.requires.engine in
    let f = priced_there (market_in c.self.inside.market) c.args.instrument instrument c.engine_of-held.result c.engine_of-held.ensures in
    let are = c.set_engine.ensures f.0 c.engine_of-held.result f.1 in
    let d = engine_left c.self.inside.market.today c.self.inside.market.objects c.set_engine.new.self c.self.inside.books.store c.watch_instead.new.store c.tell_changed.new.store c.self.inside.books.scratch c.args.instrument f.0 c.engine_of-held.result c.args.engine
    c.self.invariant.0 c.self.invariant.1 f.1 instrument serve are c.watch_instead.ensures
    c.tell_changed.ensures.state c.tell_changed.ensures.shape in
    d.changed.sound calc (subst (IsSound calc) (sym c.self.view_is) sound)
