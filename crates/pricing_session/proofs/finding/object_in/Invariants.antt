use Rattle.std.proofs.Common.{◌≡◌, drop}
use Rattle.session_model.specs.Standing.{object_named, named_from}
use Rattle.pricing_session.proofs.finding.object_in.Given as goal

abbrev pub invariant-loop-number : goal.invariant-loop-number
invariant-loop-number l =
    object_named l.session l.name ≡ named_from l.session.state.market l.name l.number (drop l.number l.session.of_object)
