use Rattle.std.proofs.Common.{◌≡◌, ◌∙◌, List, sym, ap}
use Rattle.std.specs.List.{list_all}
use Rattle.watch_rounds.specs.declared.rounds.DueWatcher.{DueWatcher}
use Rattle.graph_vectors.specs.Watched.{is_apart}
use Rattle.graph_vectors.proofs.Apart.{only}
use Rattle.graph_vectors.proofs.Room.{room_told}
use Rattle.graph_vectors.proofs.watched.Watched.told_agrees.Goals as goal

pub told-requires-clause-only : goal.told-requires-clause-only
told-requires-clause-only c = only c.args.watcher c.args.name c.args.self.now.rounds.round.due
    (ap (λ (l : List DueWatcher). list_all (is_apart c.args.watcher c.args.name) l) (sym c.due.ensures.due)
    ∙ sym c.may_tell.ensures ∙ c.if-not-may_tell.false)

pub returns : goal.returns
returns c =
    room_told c.args.self.now c.told.new.self c.args.watcher c.args.name c.requires c.told.ensures.told
