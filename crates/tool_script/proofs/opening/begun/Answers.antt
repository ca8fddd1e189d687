use Rattle.std.proofs.Common.{length, ◌∙◌}
use Rattle.tool_script.specs.Basis.{basis_in}
use Rattle.tool_script.proofs.First.{begins_is, ready_is, none_act, first_going}
use Rattle.tool_script.proofs.opening.begun.Goals as goal

pub watched_session-requires : goal.watched_session-requires
watched_session-requires c = record {
  ready = ready_is c.args.names.now c.in_ok-names.names c.in_ok-made.made.items c.args.market.now.made.items c.in_ok-names.ensures
      (c.in_ok-made.ensures ∙ c.as_slice.ensures.value) c.requires.ready;
  acting = none_act (length c.in_ok-names.names) c.new-actions.result c.new-actions.ensures;
}

pub returns-clause-begins : goal.returns-clause-begins
returns-clause-begins c =
    c.in_ok-session.ensures.begins
    ∙ begins_is c.args.market.now c.args.names.now c.in_ok-names.names c.in_ok-made.made.items c.new-actions.result
    c.in_ok-names.ensures (c.in_ok-made.ensures ∙ c.as_slice.ensures.value) c.new-actions.ensures

pub returns-clause-going : goal.returns-clause-going
returns-clause-going c =
    first_going (basis_in c.args.market.now c.args.names.now) c.in_ok-session.session
    (c.in_ok-session.ensures.begins
    ∙ begins_is c.args.market.now c.args.names.now c.in_ok-names.names c.in_ok-made.made.items c.new-actions.result
    c.in_ok-names.ensures (c.in_ok-made.ensures ∙ c.as_slice.ensures.value) c.new-actions.ensures)
    c.in_ok-session.ensures.sound
