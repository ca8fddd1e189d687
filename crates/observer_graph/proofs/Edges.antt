-- The edges of a node are its pairs, where it is no watcher.
use Rattle.std.proofs.Common.{◌≡◌, ℕ, List, Option, None, Some, refl}
use Rattle.std.specs.Prelude.{IsSome}
use Rattle.std.proofs.lemmas.Bool.{false≢true}
use Rattle.walks.specs.Walk.{Among}
use Rattle.observer_graph.specs.declared.node.Role.{Role}
use Rattle.observer_graph.specs.declared.node.Role.TheVariants.{Source, Forwarder, Lazy, Watcher}
use Rattle.observer_graph.specs.declared.node.Node.{Node}
use Rattle.observer_graph.specs.GraphView.{IsWatcher, edges_as, edges_by}

by_role : (role : Role) (subjects : List ℕ) (x : ℕ) → Among x (edges_by role subjects) → Among x subjects
by_role Source subjects x a = a
by_role Forwarder subjects x a = a
by_role Lazy subjects x a = a
by_role Watcher subjects x a = absurd a

pub edge_pair : (node : Option Node) (subjects : List ℕ) (x : ℕ) → Among x (edges_as node subjects) → Among x subjects
edge_pair None subjects x a = absurd a
edge_pair (Some node) subjects x a = by_role node.role subjects x a

-- who has an edge is no watcher
plain_role : (role : Role) (subjects : List ℕ) (x : ℕ) → Among x (edges_by role subjects) → role ≡ Watcher → ⊥
plain_role Source subjects x a is = cc
plain_role Forwarder subjects x a is = cc
plain_role Lazy subjects x a is = cc
plain_role Watcher subjects x a is = absurd a

pub edge_plain : (node : Option Node) (subjects : List ℕ) (x : ℕ) → Among x (edges_as node subjects) → IsWatcher node → ⊥
edge_plain None subjects x a is = is
edge_plain (Some node) subjects x a is = plain_role node.role subjects x a is

-- and the pairs of a live node that is no watcher are edges
role_edge : (role : Role) (subjects : List ℕ) (x : ℕ) → (role ≡ Watcher → ⊥) → Among x subjects → Among x (edges_by role subjects)
role_edge Source subjects x plain a = a
role_edge Forwarder subjects x plain a = a
role_edge Lazy subjects x plain a = a
role_edge Watcher subjects x plain a = absurd (plain refl)

pub pair_edge : (node : Option Node) (subjects : List ℕ) (x : ℕ) → IsSome node → (IsWatcher node → ⊥) → Among x subjects
    → Among x (edges_as node subjects)
pair_edge None subjects x there plain a = absurd (false≢true there)
pair_edge (Some node) subjects x there plain a = role_edge node.role subjects x plain a
