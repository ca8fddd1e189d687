use Rattle.std.proofs.Common.{◌≡◌, ◌≢◌, ◌∙◌, ap, sym, ℕ, List, Option, None}
use Rattle.edge_lists.specs.declared.edge.Edge.{Edge}
use Rattle.edge_lists.specs.declared.edge.Side.{Side}
use Rattle.edge_lists.specs.declared.edge.Side.TheVariants.{Subject, Observer}
use Rattle.edge_lists.specs.Ends.{slot_at, node_of}
use Rattle.edge_lists.specs.Chains.{AreChained, chains_of, without}
use Rattle.edge_lists.proofs.Chaining.{chained_same}
use Rattle.edge_lists.proofs.Standing.{HasLess, same_but, same_back, same_without, at_both, stands_less, pairs_less}
use Rattle.edge_lists.proofs.pairing.take_out.Goals as goal

pub link_out-requires-2-clause-chained : goal.link_out-requires-2-clause-chained
link_out-requires-2-clause-chained c =
    chained_same (chains_of Observer c.args.slots.now.slots c.args.nodes.now)
    (chains_of Observer c.link_out.new.slots.slots c.link_out.new.nodes) c.link_out.ensures.other
    (c.requires.stands.chained Observer)

less : (old s1 s2 s3 : List (Option Edge)) (edge : ℕ) → slot_at s3 edge ≡ None
    → ((k : ℕ) → k ≢ edge → slot_at s3 k ≡ slot_at s2 k)
    → ((side : Side) (k : ℕ) → node_of side (slot_at s1 k) ≡ node_of side (slot_at old k))
    → ((side : Side) (k : ℕ) → node_of side (slot_at s2 k) ≡ node_of side (slot_at s1 k))
    → HasLess old s3 edge
less old s1 s2 s3 edge gone others e f = record {
  gone = gone;
  others = λ side k other. ap (node_of side) (others k other) ∙ f side k ∙ e side k;
}

pub returns-clause-stands : goal.returns-clause-stands
returns-clause-stands c =
    let gone : slot_at c.remove.new.self.slots c.args.edge ≡ None =
    ap (slot_at c.remove.new.self.slots) (sym c.key.ensures) ∙ c.remove.ensures.updates.changed in
    let others : (k : ℕ) → k ≢ c.args.edge → slot_at c.remove.new.self.slots k ≡ slot_at c.link_out-2.new.slots.slots
    k =
    λ k other. c.remove.ensures.updates.others k (λ same. other (same ∙ c.key.ensures)) in
    let same : (side : Side)
    → AreChained (without c.args.edge (chains_of side c.link_out-2.new.slots.slots c.link_out-2.new.nodes))
    → AreChained (chains_of side c.remove.new.self.slots c.link_out-2.new.nodes) =
    λ side was. chained_same (without c.args.edge (chains_of side c.link_out-2.new.slots.slots c.link_out-2.new.nodes))
    (chains_of side c.remove.new.self.slots c.link_out-2.new.nodes)
    (same_back (chains_of side c.remove.new.self.slots c.link_out-2.new.nodes)
    (without c.args.edge (chains_of side c.link_out-2.new.slots.slots c.link_out-2.new.nodes))
    (same_but side c.remove.new.self.slots c.link_out-2.new.slots.slots c.link_out-2.new.nodes c.args.edge gone
    (λ k other. sym (others k other)))) was in
    stands_less c.args.slots.now c.remove.new.self c.args.nodes.now c.link_out-2.new.nodes c.args.edge
    c.requires.stands
    (less c.args.slots.now.slots c.link_out.new.slots.slots c.link_out-2.new.slots.slots c.remove.new.self.slots
    c.args.edge gone others c.link_out.ensures.nodes.node c.link_out-2.ensures.nodes.node)
    (at_both (λ side. AreChained (chains_of side c.remove.new.self.slots c.link_out-2.new.nodes))
    (same Subject
    (chained_same (without c.args.edge (chains_of Subject c.link_out.new.slots.slots c.link_out.new.nodes))
    (without c.args.edge (chains_of Subject c.link_out-2.new.slots.slots c.link_out-2.new.nodes))
    (same_without c.args.edge (chains_of Subject c.link_out.new.slots.slots c.link_out.new.nodes)
    (chains_of Subject c.link_out-2.new.slots.slots c.link_out-2.new.nodes) c.link_out-2.ensures.other)
    c.link_out.ensures.chained))
    (same Observer c.link_out-2.ensures.chained))
    (λ y. c.link_out-2.ensures.nodes.live y ∙ c.link_out.ensures.nodes.live y)
    (c.remove.ensures.capacity ∙ c.link_out-2.ensures.room.capacity ∙ c.link_out.ensures.room.capacity)
    (c.remove.ensures.len ∙ c.link_out-2.ensures.room.len ∙ c.link_out.ensures.room.len)

pub returns-clause-pairs : goal.returns-clause-pairs
returns-clause-pairs c =
    let gone : slot_at c.remove.new.self.slots c.args.edge ≡ None =
    ap (slot_at c.remove.new.self.slots) (sym c.key.ensures) ∙ c.remove.ensures.updates.changed in
    let others : (k : ℕ) → k ≢ c.args.edge → slot_at c.remove.new.self.slots k ≡ slot_at c.link_out-2.new.slots.slots
    k =
    λ k other. c.remove.ensures.updates.others k (λ same. other (same ∙ c.key.ensures)) in
    pairs_less c.args.slots.now.slots c.remove.new.self.slots c.args.edge
    (less c.args.slots.now.slots c.link_out.new.slots.slots c.link_out-2.new.slots.slots c.remove.new.self.slots
    c.args.edge gone others c.link_out.ensures.nodes.node c.link_out-2.ensures.nodes.node) c.requires.stands.once
