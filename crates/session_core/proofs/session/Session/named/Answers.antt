use Rattle.std.proofs.Common.{rules, ◌≡◌, None, ◌∙◌, ap}
use Rattle.std.specs.Prelude.{slice_index_or}
use Rattle.session_model.specs.Standing.{Standing, object_named}
use Rattle.session_core.proofs.Naming.{found_is}
use Rattle.session_core.proofs.session.Session.named.Goals as goal

pub returns-in-Some : goal.returns-in-Some
returns-in-Some c =
    let found : slice_index_or c.self.inside.of_name.items c.args.name None ≡ object_named c.args.self.now c.args.name =
    found_is _ c.self.inside.of_name.items c.self.inside.live c.self.invariant c.args.name
    ∙ ap (λ (p : Standing). object_named p c.args.name) c.self.view_is in
    search (rules, found)

pub returns-in-None : goal.returns-in-None
returns-in-None c =
    let found : slice_index_or c.self.inside.of_name.items c.args.name None ≡ object_named c.args.self.now c.args.name =
    found_is _ c.self.inside.of_name.items c.self.inside.live c.self.invariant c.args.name
    ∙ ap (λ (p : Standing). object_named p c.args.name) c.self.view_is in
    search (rules, found)
