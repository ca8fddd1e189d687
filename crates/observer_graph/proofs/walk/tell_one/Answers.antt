use Rattle.std.proofs.Common.{◌≡◌, ◌⊎◌, ◌<◌, ◌∙◌, ap, arith, length, refl, subst, ℕ, Option, None, true}
use Rattle.std.specs.Prelude.{slice_index_or, slice_set}
use Rattle.walks.specs.Walk.{Among}
use Rattle.observer_graph.specs.declared.node.Node.{Node}
use Rattle.observer_graph.specs.GraphView.{IsWatcher}
use Rattle.observer_graph.specs.Noticed.{with_number}
use Rattle.observer_graph.specs.Notice.{passes_of, unsettled}
use Rattle.observer_graph.specs.Puts.{carrying}
use Rattle.observer_graph.proofs.Filling.{puts_as}
use Rattle.observer_graph.proofs.Numbers.{noticed_step, room_with}
use Rattle.observer_graph.proofs.Spreading.{spreads_told, stays_done, told_done}
use Rattle.observer_graph.proofs.walk.tell_one.Goals as goal
use Rattle.observer_graph.proofs.walk.tell_one.Goals.{After-put_passing}

pub bounds-nodes-place : goal.bounds-nodes-place
bounds-nodes-place c = let n = c.requires.nodes in let t = c.requires.told in let p = c.place.ensures in omega arith

pub take_notice-goes_on-requires-clause-rising : goal.take_notice-goes_on-requires-clause-rising
take_notice-goes_on-requires-clause-rising c = c.requires.noticed.0

pub take_notice-goes_on-requires-clause-room : goal.take_notice-goes_on-requires-clause-room
take_notice-goes_on-requires-clause-room c =
    let within : c.args.told < length c.args.nodes.now = let n = c.requires.nodes in let t = c.requires.told in omega arith in
    let most = room_with c.args.noticed.now.items c.args.told (length c.args.nodes.now) within c.requires.noticed in
    let room = c.requires.room in omega arith

pub put_passing-requires-clause-room : goal.put_passing-requires-clause-room
put_passing-requires-clause-room c = let n = c.requires.nodes in let t = c.requires.told in let w = c.requires.wave in omega arith

low : (c : After-put_passing) → c.args.told < length c.args.nodes.now
low c = let n = c.requires.nodes in let t = c.requires.told in omega arith

watches : (c : After-put_passing)
    → (IsWatcher (slice_index_or c.args.nodes.now c.args.told None)
    × (c.take_notice-goes_on.new.noticed.items ≡ with_number c.args.told c.args.noticed.now.items))
    ⊎ ((IsWatcher (slice_index_or c.args.nodes.now c.args.told None) → ⊥) × (c.take_notice-goes_on.new.noticed.items ≡ c.args.noticed.now.items))
watches c = subst (λ (n : Option Node). (IsWatcher n × (c.take_notice-goes_on.new.noticed.items ≡ with_number c.args.told c.args.noticed.now.items))
    ⊎ ((IsWatcher n → ⊥) × (c.take_notice-goes_on.new.noticed.items ≡ c.args.noticed.now.items)))
    (ap (λ (n : ℕ). slice_index_or c.args.nodes.now n None) c.place.ensures) c.take_notice-goes_on.ensures.watcher

goes : (c : After-put_passing) → c.take_notice-goes_on.result ≡ passes_of (slice_index_or c.args.nodes.now c.args.told None)
goes c = c.take_notice-goes_on.ensures.passes ∙ ap (λ (n : ℕ). passes_of (slice_index_or c.args.nodes.now n None)) c.place.ensures

after : (c : After-put_passing) → slice_set c.args.nodes.now c.place.result c.take_notice-goes_on.new.node
    ≡ slice_set c.args.nodes.now c.args.told (unsettled (slice_index_or c.args.nodes.now c.args.told None))
after c = rw (c.take_notice-goes_on.ensures.node, c.place.ensures) refl

pub returns-clause-spreads : goal.returns-clause-spreads
returns-clause-spreads c = λ sources first noted from ahead s told. (
  spreads_told c.args.edges.now c.args.nodes.now (slice_set c.args.nodes.now c.place.result c.take_notice-goes_on.new.node)
      c.args.wave.now (carrying c.put_passing.result c.put_passing.new.wave) c.args.told c.take_notice-goes_on.result c.args.noticed.now.items
      c.take_notice-goes_on.new.noticed.items (low c) c.put_passing.ensures.puts (goes c) c.put_passing.ensures.done (after c) (watches c)
      first sources noted (λ x o. (x ≡ from) × Among o ahead) told s,
  told_done c.args.edges.now c.args.nodes.now (slice_set c.args.nodes.now c.place.result c.take_notice-goes_on.new.node)
      c.args.wave.now (carrying c.put_passing.result c.put_passing.new.wave) c.args.told c.take_notice-goes_on.result c.args.noticed.now.items
      c.take_notice-goes_on.new.noticed.items (low c) c.put_passing.ensures.puts (goes c) c.put_passing.ensures.done (after c) (watches c)
      first sources noted (λ x o. (x ≡ from) × Among o ahead) told s,
)

pub returns-clause-stays : goal.returns-clause-stays
returns-clause-stays c = λ first o d. stays_done c.args.edges.now c.args.nodes.now
    (slice_set c.args.nodes.now c.place.result c.take_notice-goes_on.new.node) c.args.wave.now (carrying c.put_passing.result c.put_passing.new.wave) c.args.told
    c.take_notice-goes_on.result c.args.noticed.now.items c.take_notice-goes_on.new.noticed.items (low c) c.put_passing.ensures.puts (goes c)
    c.put_passing.ensures.done (after c) (watches c) first o d

pub returns-clause-puts : goal.returns-clause-puts
returns-clause-puts c = puts_as c.args.wave.now (carrying c.put_passing.result c.put_passing.new.wave)
    (λ o. (o ≡ c.args.told) × (c.take_notice-goes_on.result ≡ true)) (λ o. o ≡ c.args.told) (λ o p. p.0) c.put_passing.ensures.puts

pub returns-clause-noticed : goal.returns-clause-noticed
returns-clause-noticed c = noticed_step (IsWatcher (slice_index_or c.args.nodes.now c.args.told None)) c.args.noticed.now.items
    c.take_notice-goes_on.new.noticed.items c.args.told (length c.args.nodes.now) (low c) (watches c) c.requires.noticed
