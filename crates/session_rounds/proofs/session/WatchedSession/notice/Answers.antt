use Rattle.std.proofs.Common.{◌≡◌, ◌∙◌, true, sym, ap, subst, arith}
use Rattle.std.proofs.lemmas.Result.{on_err_weaker}
use Rattle.desk_model.specs.Told.{is_watching}
use Rattle.watch_rounds.specs.Round.{RoundsView, notice_of, tally_at}
use Rattle.watch_rounds.proofs.Stays.{notice_all_if}
use Rattle.session_model.specs.Course.{Running, notice}
use Rattle.session_model.specs.Standing.{name_of}
use Rattle.session_core.specs.Watchers.{IsAWatcher}
use Rattle.session_rounds.specs.Goes.{lines_alone}
use Rattle.session_rounds.proofs.Going.{halts_unwritten}
use Rattle.session_rounds.proofs.Fitting.{fits_notice, only_of, told_still}
use Rattle.session_rounds.proofs.session.WatchedSession.notice.Goals as goal

pub returns-then-stays_due-clause-ok : goal.returns-then-stays_due-clause-ok
returns-then-stays_due-clause-ok g c =
    let watcher = subst (λ (r : Running g.row.P.Denot). IsAWatcher r.standing c.args.watcher) (sym c.self.view_is) c.requires in
    rw (c.stays_due.ensures.same, ← c.self.view_is)
    (told_still _ c.args.watcher (lines_alone c.args.lines.now.items)
    (c.stays_due.ensures.due c.if-stays_due.true (name_of c.self.inside.session c.args.watcher)
    (only_of c.self.inside.session c.self.inside.rounds.round.due c.args.watcher c.self.invariant.0.due watcher)))

pub told-notice-requires-clause-low : goal.told-notice-requires-clause-low
told-notice-requires-clause-low g c =
    let watcher = subst (λ (r : Running g.row.P.Denot). IsAWatcher r.standing c.args.watcher) (sym c.self.view_is) c.requires in
    let listed = watcher.listed in let room = c.self.invariant.0.room in rw c.stays_due.ensures.same (omega arith)

pub told-notice-requires-clause-named : goal.told-notice-requires-clause-named
told-notice-requires-clause-named g c =
    let watcher = subst (λ (r : Running g.row.P.Denot). IsAWatcher r.standing c.args.watcher) (sym c.self.view_is) c.requires in
    let named = watcher.named in let counted = c.self.invariant.0.counted in
    rw (c.stays_due.ensures.same, c.name_of-name.ensures) (omega arith)

pub told-notice-requires-clause-only : goal.told-notice-requires-clause-only
told-notice-requires-clause-only g c =
    let watcher = subst (λ (r : Running g.row.P.Denot). IsAWatcher r.standing c.args.watcher) (sym c.self.view_is) c.requires in
    rw (c.stays_due.ensures.same, c.name_of-name.ensures)
    (only_of c.self.inside.session c.self.inside.rounds.round.due c.args.watcher c.self.invariant.0.due watcher)

pub invariant_of-self : goal.invariant_of-self
invariant_of-self g c = rw c.stays_due.ensures.same c.self.invariant

pub invariant_of-self-2 : goal.invariant_of-self-2
invariant_of-self-2 g c =
    let watcher = subst (λ (r : Running g.row.P.Denot). IsAWatcher r.standing c.args.watcher) (sym c.self.view_is) c.requires in
    rw (c.told-notice.ensures.told, c.stays_due.ensures.same) (
      fits_notice _ _ _ _ c.self.invariant.0 watcher c.name_of-name.ensures,
      (
        λ on.
            let both = c.settled_with-self-inside.ensures on in
            notice_all_if (λ entry. is_watching c.self.inside.session.state entry.watcher ≡ true) c.args.watcher c.name_of-name.result
            c.self.inside.rounds.round (c.self.invariant.1.0 both.0)
            (λ due. both.1 (c.told-notice.ensures.notice
            ∙ ap (λ (v : RoundsView). notice_of (tally_at v.round c.name_of-name.result)) c.stays_due.ensures.same ∙ due)),
        c.self.invariant.1.1,
      ),
    )

pub returns-clause-err : goal.returns-clause-err
returns-clause-err g c =
    on_err_weaker c.say.result (λ same. halts_unwritten (notice c.args.watcher c.args.self.now) c.args.lines.now.items _ same) c.say.ensures.err
