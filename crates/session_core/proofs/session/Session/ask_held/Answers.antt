use Rattle.std.proofs.Common.{◌≡◌, true, sym, ◌∙◌, subst}
use Rattle.desk_model.specs.Links.{is_lazy_at}
use Rattle.session_model.specs.Standing.{Standing}
use Rattle.session_core.proofs.Resolved.{found_lazy}
use Rattle.session_core.proofs.session.Session.ask_held.Goals as goal

pub ask_held-requires : goal.ask_held-requires
ask_held-requires c = record {
  lazy = subst (λ (p : Standing). is_lazy_at p.state.market c.in-Ok.object ≡ true) (sym c.self.view_is)
      (found_lazy c.args.self.now c.args.name c.in-Ok.object (sym c.find.ensures ∙ c.in-Ok.is));
}
