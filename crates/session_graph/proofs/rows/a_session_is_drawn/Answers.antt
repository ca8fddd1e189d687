use Rattle.std.proofs.Common.{refl}
use Rattle.walks.specs.Walk.{below_by}
use Rattle.desk_names.specs.Names.{place_of}
use Rattle.desk_model.specs.Effect.{made, watching, registered_with, notified, revised, quote_set, frozen_set, deferred}
use Rattle.desk_model.specs.State.{is_frozen, is_source, is_late, is_clear, mark_of}
use Rattle.ask_walk.specs.Asks.{held_answer}
use Rattle.session_model.specs.Resolve.{find}
use Rattle.session_model.specs.Standing.{with_objects, named_from}
use Rattle.session_graph.specs.Edges.{registrations_below}
use Rattle.session_graph.specs.Graph.{nodes_below, edges_below}
use Rattle.session_graph.proofs.rows.a_session_is_drawn.Goals as goal

pub returns : goal.returns
unfolding below_by place_of made watching registered_with notified revised quote_set frozen_set deferred is_frozen is_source is_late is_clear mark_of held_answer find with_objects named_from registrations_below nodes_below edges_below
returns c = record { bond = refl; swap = λ parts. refl; agreement = refl; settled = refl; held = refl; edges = refl }
