use Rattle.std.proofs.Common.{List, None, sym, ◌∙◌, ap}
use Rattle.std.specs.Prelude.{Option, slice_index_or, is_some}
use Rattle.std.proofs.lemmas.Bool.{false≢true}
use Rattle.observer_graph.specs.declared.node.Role.{Role}
use Rattle.lazy_objects.proofs.Linked.{same_held, target_itself, leaves_roles, there_still, unwatched_new, room_freed}
use Rattle.lazy_objects.proofs.Repriced.{moved, unmoved}
use Rattle.lazy_objects.proofs.links.watch_instead.Goals as goal

pub watch_any-requires-clause-room : goal.watch_any-requires-clause-room
watch_any-requires-clause-room c = room_freed c.args.held.now c.args.target.now c.args.store.now c.unwatch_any.new.store c.unwatch_any.ensures.spare c.requires.room

pub watch_any-requires-clause-subject : goal.watch_any-requires-clause-subject
watch_any-requires-clause-subject c = there_still c.args.held.now c.args.target.now c.args.observer c.args.store.now c.unwatch_any.new.store c.unwatch_any.ensures.leaves c.requires.target

pub watch_any-requires-clause-observer : goal.watch_any-requires-clause-observer
watch_any-requires-clause-observer c =
    ap (λ (l : List (Option Role)). is_some (slice_index_or l c.args.observer None)) (leaves_roles c.args.held.now c.args.observer c.args.store.now c.unwatch_any.new.store c.unwatch_any.ensures.leaves).1
    ∙ c.requires.observer

pub watch_any-requires-clause-new : goal.watch_any-requires-clause-new
watch_any-requires-clause-new c =
    unwatched_new c.args.held.now c.args.target.now c.args.observer c.args.store.now c.unwatch_any.new.store c.unwatch_any.ensures.leaves
    (λ same. false≢true (sym c.if-eq.false ∙ c.eq.ensures ∙ target_itself c.args.held.now c.args.target.now same)) c.requires.new

pub returns : goal.returns
returns c = moved c.args.held.now c.args.target.now c.args.observer c.args.store.now c.unwatch_any.new.store c.watch_any.new.store
    c.unwatch_any.ensures.leaves c.unwatch_any.ensures.spare c.watch_any.ensures.joins c.watch_any.ensures.spare

pub returns-then-eq : goal.returns-then-eq
returns-then-eq c = unmoved c.args.held.now c.args.target.now c.args.observer c.args.store.now
    (same_held c.args.held.now c.args.target.now (sym c.eq.ensures ∙ c.if-eq.true)) c.requires.watched
