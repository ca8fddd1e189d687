use Rattle.std.proofs.Common.{◌∙◌, refl, sym, ap, subst}
use Rattle.std.specs.Prelude.{is_ok}
use Rattle.std.proofs.lemmas.Bool.{false≢true}
use Rattle.std.proofs.lemmas.Result.{err_from_is_err_and}
use Rattle.desk_model.specs.State.{State}
use Rattle.desk_model.specs.Sound.{IsSound}
use Rattle.session_model.specs.Standing.{Standing}
use Rattle.session_model.specs.Course.{Running, heard}
use Rattle.session_core.proofs.Alike.{names_stay}
use Rattle.session_core.proofs.Watching.{told_left, told_heard, handed_left, handed_watcher}
use Rattle.session_rounds.specs.Fits.{IsSettled}
use Rattle.session_rounds.specs.Goes.{Does, Goes, lines_alone}
use Rattle.session_rounds.proofs.Going.{goes_start}
use Rattle.session_rounds.proofs.Hearing.{kept, heard_more, heard_halts, heard_ends, silent_notice}
use Rattle.session_rounds.proofs.Fitting.{fits_leaving}
use Rattle.session_rounds.proofs.session.WatchedSession.hear.Goals as goal

pub loop-watcher-init : goal.loop-watcher-init
loop-watcher-init g c = record {
  goes = goes_start (heard c.args.self.now) (lines_alone c.args.lines.now.items);
  names = refl;
  actions = refl;
  stopped = refl;
  sound = λ calc is. is;
}

pub invariant_of-session : goal.invariant_of-session
invariant_of-session g c = names_stay _ _ _ c.next_told.new.self
    (ap (λ (s : State). s.market) (told_left _ c.next_told.new.self c.next_told.result c.next_told.ensures.none c.next_told.ensures.some))
    c.session.invariant

pub invariant_of-self : goal.invariant_of-self
invariant_of-self g c =
    let left = handed_left _ c.next_told.new.self c.in-Some.ensures.some.1 c.self.inside.session c.session.view_is in (
      fits_leaving _ c.self.inside.rounds.nodes c.next_told.new.self.noticed _ c.self.invariant.0 left,
      (
        subst (λ (p : Standing). IsSettled c.self.inside.settled p.state c.self.inside.rounds.round.due) (sym left) c.self.invariant.1.0,
        λ on. told_heard _ c.next_told.new.self c.next_told.result c.next_told.ensures.none c.next_told.ensures.some
            (ap (λ (p : Standing). p.state.noticed) c.session.view_is ∙ c.self.invariant.1.1 on),
      ),
    )

pub notice-requires : goal.notice-requires
notice-requires g c =
    handed_watcher _ c.next_told.new.self c.in-Some.ensures.some.1 _ _ c.in-Some.watcher c.session.invariant c.in-Some.ensures.watcher

pub loop-watcher-preserved : goal.loop-watcher-preserved
loop-watcher-preserved g c =
    let r : Running g.row.P.Denot = record { standing = c.self.inside.session; round = c.self.inside.rounds.round; picker = c.self.inside.picker } in
    let so_far = subst (λ (z : Running g.row.P.Denot). Goes g.row.P.Denot (heard c.args.self.now) (heard z)
    (lines_alone c.args.lines.now.items) (lines_alone c.loop-watcher.lines.items)) (sym c.self.view_is) c.loop-watcher.invariant.goes in
    let handed = handed_left _ c.next_told.new.self c.in-Some.ensures.some.1 c.self.inside.session c.session.view_is in
    let first = sym (ap (λ (p : Standing). p.state.noticed) c.session.view_is) ∙ c.in-Some.ensures.some.0 in
    let left = ap (λ (p : Standing). let z : Running g.row.P.Denot = record r { standing = p } in z) handed in
    let standing = c.notice.ensures.standing ∙ handed in
    let view = ap (λ (z : Running g.row.P.Denot). z.standing) c.self.view_is in record {
      goes = heard_more (heard c.args.self.now) r _ c.in-Some.watcher c.next_told.new.self.noticed
          (lines_alone c.args.lines.now.items) (lines_alone c.loop-watcher.lines.items) (lines_alone c.notice.new.lines.items)
          c.notice.new.self so_far first left c.in_ok-notice.ensures.ok;
      names = ap (λ (p : Standing). p.names) standing ∙ ap (λ (p : Standing). p.names) view ∙ c.loop-watcher.invariant.names;
      actions = ap (λ (p : Standing). p.actions) standing ∙ ap (λ (p : Standing). p.actions) view ∙ c.loop-watcher.invariant.actions;
      stopped = ap (λ (p : Standing). p.stopped) standing ∙ ap (λ (p : Standing). p.stopped) view ∙ c.loop-watcher.invariant.stopped;
      sound = λ calc is. subst (λ (p : Standing). IsSound calc p.state) (sym c.notice.ensures.standing)
          (c.next_told.ensures.sound calc (subst (λ (p : Standing). IsSound calc p.state) (sym c.session.view_is)
          (subst (λ (z : Running g.row.P.Denot). IsSound calc z.standing.state) (sym c.self.view_is) (c.loop-watcher.invariant.sound calc is))));
    }

pub returns-in_err-notice-clause-err : goal.returns-in_err-notice-clause-err
returns-in_err-notice-clause-err g c =
    let r : Running g.row.P.Denot = record { standing = c.self.inside.session; round = c.self.inside.rounds.round; picker = c.self.inside.picker } in
    let so_far = subst (λ (z : Running g.row.P.Denot). Goes g.row.P.Denot (heard c.args.self.now) (heard z)
    (lines_alone c.args.lines.now.items) (lines_alone c.loop-watcher.lines.items)) (sym c.self.view_is) c.loop-watcher.invariant.goes in
    let handed = handed_left _ c.next_told.new.self c.in-Some.ensures.some.1 c.self.inside.session c.session.view_is in
    let first = sym (ap (λ (p : Standing). p.state.noticed) c.session.view_is) ∙ c.in-Some.ensures.some.0 in
    let left = ap (λ (p : Standing). let z : Running g.row.P.Denot = record r { standing = p } in z) handed in
    let e = err_from_is_err_and c.from_residual.result c.from_residual.ensures.1 in
    rw e.1 (heard_halts (heard c.args.self.now) r _ c.in-Some.watcher c.next_told.new.self.noticed
    (lines_alone c.args.lines.now.items) (lines_alone c.loop-watcher.lines.items) (lines_alone c.notice.new.lines.items)
    so_far first left c.in_err-notice.ensures.err)

pub returns-in_err-notice-clause-sound : goal.returns-in_err-notice-clause-sound
returns-in_err-notice-clause-sound g c = λ calc is. subst (λ (p : Standing). IsSound calc p.state) (sym c.notice.ensures.standing)
    (c.next_told.ensures.sound calc (subst (λ (p : Standing). IsSound calc p.state) (sym c.session.view_is)
    (subst (λ (z : Running g.row.P.Denot). IsSound calc z.standing.state) (sym c.self.view_is) (c.loop-watcher.invariant.sound calc is))))

pub returns-in_default-clause-ok : goal.returns-in_default-clause-ok
returns-in_default-clause-ok g c =
    let r : Running g.row.P.Denot = record { standing = c.self.inside.session; round = c.self.inside.rounds.round; picker = c.self.inside.picker } in
    let so_far = subst (λ (z : Running g.row.P.Denot). Goes g.row.P.Denot (heard c.args.self.now) (heard z)
    (lines_alone c.args.lines.now.items) (lines_alone c.loop-watcher.lines.items)) (sym c.self.view_is) c.loop-watcher.invariant.goes in
    let ended = heard_ends (heard c.args.self.now) r (lines_alone c.args.lines.now.items)
    (lines_alone c.loop-watcher.lines.items) so_far
    (sym (ap (λ (p : Standing). p.state.noticed) c.session.view_is) ∙ c.in_default.ensures.none.0) in
    subst (λ (p : Standing). Does g.row.P.Denot (heard c.args.self.now) (record r { standing = p }) (lines_alone c.args.lines.now.items)
    (lines_alone c.loop-watcher.lines.items)) (sym (kept _ c.self.inside.session c.next_told.new.self c.session.view_is c.in_default.ensures.none.1)) ended

pub returns-in_default-clause-sound : goal.returns-in_default-clause-sound
returns-in_default-clause-sound g c = λ calc is. c.next_told.ensures.sound calc
    (subst (λ (p : Standing). IsSound calc p.state) (sym c.session.view_is)
    (subst (λ (z : Running g.row.P.Denot). IsSound calc z.standing.state) (sym c.self.view_is) (c.loop-watcher.invariant.sound calc is)))

pub returns-in_err-notice-clause-ready : goal.returns-in_err-notice-clause-ready
returns-in_err-notice-clause-ready g c = λ silent.
    let r : Running g.row.P.Denot = record { standing = c.self.inside.session; round = c.self.inside.rounds.round; picker = c.self.inside.picker } in
    let so_far = subst (λ (z : Running g.row.P.Denot). Goes g.row.P.Denot (heard c.args.self.now) (heard z)
    (lines_alone c.args.lines.now.items) (lines_alone c.loop-watcher.lines.items)) (sym c.self.view_is) c.loop-watcher.invariant.goes in
    let handed = handed_left _ c.next_told.new.self c.in-Some.ensures.some.1 c.self.inside.session c.session.view_is in
    let first = sym (ap (λ (p : Standing). p.state.noticed) c.session.view_is) ∙ c.in-Some.ensures.some.0 in
    let left = ap (λ (p : Standing). let z : Running g.row.P.Denot = record r { standing = p } in z) handed in
    let none = silent_notice (heard c.args.self.now) r _ c.in-Some.watcher c.next_told.new.self.noticed
    (lines_alone c.args.lines.now.items) (lines_alone c.loop-watcher.lines.items) so_far first left silent in
    absurd (false≢true (sym (ap is_ok c.in_err-notice.was) ∙ c.notice.ensures.ready none))
