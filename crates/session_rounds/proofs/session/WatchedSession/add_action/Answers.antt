use Rattle.std.proofs.Common.{sym, subst}
use Rattle.std.specs.Prelude.{All}
use Rattle.std.proofs.lemmas.Bool.{false≢true}
use Rattle.session_model.specs.Course.{Running}
use Rattle.session_model.specs.Growing.{with_action}
use Rattle.session_model.specs.Standing.{IsKnown}
use Rattle.session_rounds.proofs.Larger.{fits_added}
use Rattle.session_rounds.proofs.session.WatchedSession.add_action.Goals as goal

pub invariant_of-self : goal.invariant_of-self
invariant_of-self g c =
    let r : Running g.row.P.Denot = record {
      standing = c.self.inside.session;
      round = c.self.inside.rounds.round;
      picker = c.self.inside.picker;
    } in (
      fits_added r c.self.inside.rounds.nodes c.add_action.new.self c.add_action.result c.self.invariant.0 c.args.block
          (subst (λ (z : Running g.row.P.Denot). All (IsKnown (with_action c.args.block z.standing)) c.args.block)
          (sym c.self.view_is) c.requires.known) c.add_action.ensures.added c.add_action.ensures.same,
      (λ on. absurd (false≢true on), λ on. absurd (false≢true on)),
    )
