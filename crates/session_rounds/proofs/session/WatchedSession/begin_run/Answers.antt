use Rattle.std.proofs.Common.{◌≡◌, true, length, refl, ap}
use Rattle.std.specs.Prelude.{slice_get}
use Rattle.desk_model.specs.Told.{is_watching}
use Rattle.watch_rounds.specs.Round.{RoundsView, with_run}
use Rattle.watch_rounds.proofs.Stays.{ran_all}
use Rattle.session_rounds.proofs.Fitting.{fits_ran, none_if, live_if, ends_if}
use Rattle.session_rounds.proofs.session.WatchedSession.begin_run.Goals as goal

pub invariant_of-self : goal.invariant_of-self
unfolding with_run
invariant_of-self g c =
    let at = g.P.Picker.at c.self.inside.picker (length c.self.inside.rounds.round.due) in
    rw (c.next_due.ensures.ran) (
      fits_ran _ c.self.inside.rounds.nodes at c.next_due.new.picker c.self.invariant.0,
      (
        λ on. ran_all (λ entry. is_watching c.self.inside.session.state entry.watcher ≡ true) (slice_get c.self.inside.rounds.round.due at) at
            c.self.inside.rounds.round refl (c.self.invariant.1.0 on),
        c.self.invariant.1.1,
      ),
    )

pub returns-clause-begun : goal.returns-clause-begun
returns-clause-begun g c = rw (c.next_due.ensures.ran, c.next_due.ensures.picker, ← c.self.view_is) refl

pub returns-clause-none : goal.returns-clause-none
returns-clause-none g c = rw (← c.self.view_is) (none_if c.self.inside.rounds.round.due
    (g.P.Picker.at c.self.inside.picker (length c.self.inside.rounds.round.due)) c.next_due.result c.next_due.ensures.due
    (λ some. g.met.P.Picker.below c.self.inside.picker (length c.self.inside.rounds.round.due) some))

pub returns-clause-live : goal.returns-clause-live
returns-clause-live g c = rw (← c.self.view_is) (live_if c.self.inside.session c.self.inside.rounds.round.due
    (g.P.Picker.at c.self.inside.picker (length c.self.inside.rounds.round.due)) c.next_due.result c.self.invariant.0.due c.next_due.ensures.due)

pub returns-clause-ends : goal.returns-clause-ends
returns-clause-ends g c = ends_if c.self.inside.rounds.round c.next_due.new.self
    (g.P.Picker.at c.self.inside.picker (length c.self.inside.rounds.round.due)) c.next_due.result
    (none_if c.self.inside.rounds.round.due
    (g.P.Picker.at c.self.inside.picker (length c.self.inside.rounds.round.due)) c.next_due.result c.next_due.ensures.due
    (λ some. g.met.P.Picker.below c.self.inside.picker (length c.self.inside.rounds.round.due) some))
    (ap (λ (v : RoundsView). v.round) c.next_due.ensures.ran) c.next_due.ensures.round
