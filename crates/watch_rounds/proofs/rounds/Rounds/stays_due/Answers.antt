use Rattle.std.proofs.Common.{◌∙◌, sym, arith}
use Rattle.watch_rounds.proofs.Places.{is_there}
use Rattle.watch_rounds.proofs.Stays.{told_still}
use Rattle.watch_rounds.proofs.rounds.Rounds.stays_due.Goals as goal

pub overflow_add-self : goal.overflow_add-self
overflow_add-self c =
    let is = is_there c.self.inside.due.items c.self.inside.near c.args.watcher (sym c.is_at.ensures ∙ c.if-not-is_at.false) in
    let low = is.0 in let len = c.self.inside.due.ok.0 in omega arith

pub returns-clause-due : goal.returns-clause-due
returns-clause-due c = rw (← c.self.view_is) (λ yes name only.
    told_still (record { due = c.self.inside.due.items; tallies = c.self.inside.tallies.items }) c.self.inside.nodes
    c.self.inside.near c.args.watcher name c.self.invariant.0.round (sym c.is_at.ensures ∙ c.if-not-is_at.false) only)
