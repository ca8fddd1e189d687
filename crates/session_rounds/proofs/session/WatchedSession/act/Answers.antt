use Rattle.std.proofs.Common.{◌≡◌, inl, inr, ◌∙◌, length, sym, ap, subst, arith}
use Rattle.std.specs.Prelude.{true}
use Rattle.std.proofs.lemmas.Bool.{false≢true}
use Rattle.std.proofs.lemmas.Result.{on_err_weaker}
use Rattle.watch_rounds.specs.Round.{Round, RoundsView}
use Rattle.session_core.specs.Steps.{is_without_memory}
use Rattle.session_model.specs.Standing.{Standing}
use Rattle.session_model.specs.Resolve.{resolve}
use Rattle.session_model.specs.Turn.{turn}
use Rattle.session_model.specs.Course.{Running, Meaning, taken}
use Rattle.session_rounds.specs.Fits.{Fits, AreWatching}
use Rattle.session_rounds.proofs.Going.{does_halts}
use Rattle.session_rounds.proofs.Stopping.{stops_within, stops_at_once}
use Rattle.session_model.proofs.Live.{acted_long}
use Rattle.session_rounds.proofs.Staying.{due_watched}
use Rattle.session_rounds.proofs.Taken.{does_taken, halts_taken, fits_acted, stopped_or_same, quiet_numbers}
use Rattle.session_rounds.proofs.session.WatchedSession.act.Goals as goal

pub make_room-requires : goal.make_room-requires
make_room-requires g c =
    let long = acted_long (g.B.Bench.calc c.args.bench.now) c.self.inside.session c.args.command.now in
    let same = ap (λ (p : Standing). length p.of_object) c.in-Ok.ensures.acts.next in
    let spare = c.self.invariant.0.spare (ap (λ (r : Running g.row.P.Denot). r.standing.stopped) c.self.view_is ∙ c.requires.running) in
    let nodes = ap (λ (v : RoundsView). v.nodes) c.settle.ensures.undue in record { room = omega arith }

pub invariant_of-self : goal.invariant_of-self
invariant_of-self g c =
    let r : Running g.row.P.Denot = record { standing = c.self.inside.session; round = c.self.inside.rounds.round; picker = c.self.inside.picker } in
    let kept = stopped_or_same c.make_room.result c.act.new.self c.make_room.new.session c.make_room.ensures.ok c.make_room.ensures.err in
    let fits = fits_acted (g.B.Bench.calc c.args.bench.now) r c.args.command.now c.act.new.self c.make_room.new.session c.self.inside.rounds.nodes
    c.make_room.new.rounds.nodes c.self.invariant.0 c.watchers.ensures c.in-Ok.ensures.acts.next c.act.ensures.names c.act.ensures.actions kept
    c.make_room.ensures.room c.make_room.ensures.spare in
    let watching = subst (λ (p : Standing). AreWatching p.state c.settle.new.rounds.round.due) (sym kept) c.settle.ensures.watching in (
      subst (λ (z : Round). Fits g.row.P.Denot (record r { standing = c.make_room.new.session; round = z }) c.make_room.new.rounds.nodes)
          (sym (c.make_room.ensures.round ∙ ap (λ (v : RoundsView). v.round) c.settle.ensures.undue)) fits,
      (
        λ on. subst (λ (z : Round). AreWatching c.make_room.new.session.state z.due) (sym c.make_room.ensures.round) watching,
        λ on. absurd (false≢true on),
      ),
    )

pub settle-requires : goal.settle-requires
settle-requires g c = λ on.
    let both = c.stays_settled-settled.ensures on in
    subst (λ (p : Standing). AreWatching p.state c.self.inside.rounds.round.due) (sym c.in-Ok.ensures.acts.next)
    (due_watched (g.B.Bench.calc c.args.bench.now) c.self.inside.session c.args.command.now c.self.inside.rounds.round.due both.1
    (c.self.invariant.1.0 both.0))

pub returns-in-Ok-clause-err : goal.returns-in-Ok-clause-err
returns-in-Ok-clause-err g c =
    let r : Running g.row.P.Denot = record { standing = c.self.inside.session; round = c.self.inside.rounds.round; picker = c.self.inside.picker } in
    let t = turn (g.B.Bench.calc c.args.bench.now) c.self.inside.session c.args.command.now in
    rw (← c.self.view_is) (on_err_weaker c.make_room.result (λ stopped. does_halts (taken t r) _ _ _
    (does_taken t r _ _ _ _ _ _ c.act.new.self c.in-Ok.ensures.acts)) c.make_room.ensures.err)

pub returns-in-Ok-clause-ready : goal.returns-in-Ok-clause-ready
returns-in-Ok-clause-ready g c = λ free.
    let here = subst (λ (z : Running g.row.P.Denot). is_without_memory (resolve z.standing c.args.command.now) ≡ true) (sym c.self.view_is) free in
    let same = ap (λ (p : Standing). length p.of_object) c.in-Ok.ensures.acts.next
    ∙ ap length (quiet_numbers (g.B.Bench.calc c.args.bench.now) c.self.inside.session c.args.command.now here) in
    let spare = c.self.invariant.0.spare (ap (λ (r : Running g.row.P.Denot). r.standing.stopped) c.self.view_is ∙ c.requires.running) in
    let nodes = ap (λ (v : RoundsView). v.nodes) c.settle.ensures.undue in
    c.make_room.ensures.ready (omega arith)

pub returns-in-Err-clause-err : goal.returns-in-Err-clause-err
returns-in-Err-clause-err g c =
    let r : Running g.row.P.Denot = record { standing = c.self.inside.session; round = c.self.inside.rounds.round; picker = c.self.inside.picker } in
    rw (← c.self.view_is)
    (halts_taken (turn (g.B.Bench.calc c.args.bench.now) c.self.inside.session c.args.command.now) r _ _ _ _ _ _ _ _ _ c.in-Err.ensures.halts)

pub returns-in-Ok-clause-so_far : goal.returns-in-Ok-clause-so_far
returns-in-Ok-clause-so_far g c =
    let m : Meaning g.row.P.Denot = record { calc = g.B.Bench.calc c.args.bench.now; at = g.P.Picker.at; after = g.P.Picker.after } in
    let r : Running g.row.P.Denot = record { standing = c.self.inside.session; round = c.self.inside.rounds.round; picker = c.self.inside.picker } in
    let t = turn (g.B.Bench.calc c.args.bench.now) c.self.inside.session c.args.command.now in
    rw (← c.self.view_is) (on_err_weaker c.make_room.result (λ stopped. inr (stops_at_once m r c.args.command.now _ _
    (does_taken t r _ _ _ _ _ _ c.act.new.self c.in-Ok.ensures.acts).out)) c.make_room.ensures.err)

pub returns-in-Err-clause-so_far : goal.returns-in-Err-clause-so_far
returns-in-Err-clause-so_far g c =
    let m : Meaning g.row.P.Denot = record { calc = g.B.Bench.calc c.args.bench.now; at = g.P.Picker.at; after = g.P.Picker.after } in
    let r : Running g.row.P.Denot = record { standing = c.self.inside.session; round = c.self.inside.rounds.round; picker = c.self.inside.picker } in
    rw (← c.self.view_is) (inl (stops_within m r c.args.command.now _ _ _ _ _ _ _ _ _ c.in-Err.ensures.halts))
