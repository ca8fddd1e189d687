use Rattle.std.proofs.Common.{◌≤◌, ◌+◌, ◌∙◌, List, ℕ, length, Err, refl, sym, ap, subst}
use Rattle.std.proofs.lemmas.Bool.{false≢true}
use Rattle.desk_terms.specs.Reading.{Calc}
use Rattle.desk_terms.specs.declared.cause.Cause.TheVariants.{Unpriced}
use Rattle.desk_model.specs.Sound.{IsSound, KeepsCurrent}
use Rattle.watch_rounds.specs.Round.{RoundsView}
use Rattle.session_model.specs.Standing.{Standing}
use Rattle.session_model.specs.Turn.{turn}
use Rattle.session_model.specs.Course.{Running, taken, undue}
use Rattle.session_rounds.specs.Fits.{Fits}
use Rattle.session_rounds.proofs.Taken.{fits_acted}
use Rattle.session_rounds.proofs.session.WatchedSession.change.Goals as goal

-- a way to price that refuses all
no_calc : Calc
no_calc = λ reading. Err (Unpriced 0)

pub invariant_of-self : goal.invariant_of-self
invariant_of-self g c =
    let r : Running g.row.P.Denot = record { standing = c.self.inside.session; round = c.self.inside.rounds.round; picker = c.self.inside.picker } in
    let new = c.change-refusal.new.self in
    let alike = c.change-refusal.ensures.alike in
    let objects = ap (λ (p : Standing). p.of_object) alike in
    let fits = c.self.invariant.0 in (
      subst (λ (v : RoundsView). Fits g.row.P.Denot (record r { standing = new; round = v.round }) v.nodes) (sym c.settle.ensures.undue)
          (fits_acted no_calc r c.args.command.now new new c.self.inside.rounds.nodes c.self.inside.rounds.nodes fits c.watchers.ensures
          (c.change-refusal.ensures.turns no_calc) (ap (λ (p : Standing). p.names) alike) (ap (λ (p : Standing). p.actions) alike) refl
          (subst (λ (l : List ℕ). length l ≤ c.self.inside.rounds.nodes) (sym objects) fits.room)
          (λ running. subst (λ (l : List ℕ). length l + 1 ≤ c.self.inside.rounds.nodes) (sym objects)
          (fits.spare (sym (ap (λ (p : Standing). p.stopped) alike) ∙ running)))),
      (λ on. c.settle.ensures.watching, λ on. absurd (false≢true on)),
    )

pub settle-requires : goal.settle-requires
settle-requires g c = λ on. absurd (false≢true on)

pub returns-clause-turns : goal.returns-clause-turns
returns-clause-turns g c = λ calc.
    let r : Running g.row.P.Denot = record { standing = c.self.inside.session; round = c.self.inside.rounds.round; picker = c.self.inside.picker } in
    ap (λ (v : RoundsView). let z : Running g.row.P.Denot = record r { standing = c.change-refusal.new.self; round = v.round } in z) c.settle.ensures.undue
    ∙ ap (λ (p : Standing). let z : Running g.row.P.Denot = record r { standing = p; round = undue p.state r.round } in z) (c.change-refusal.ensures.turns calc)
    ∙ ap (λ (z : Running g.row.P.Denot). (taken (turn calc z.standing c.args.command.now) z).next) c.self.view_is

pub returns-clause-running : goal.returns-clause-running
returns-clause-running g c =
    ap (λ (p : Standing). p.stopped) c.change-refusal.ensures.alike ∙ ap (λ (z : Running g.row.P.Denot). z.standing.stopped) c.self.view_is ∙ c.requires.running

pub returns-clause-names : goal.returns-clause-names
returns-clause-names g c =
    ap (λ (p : Standing). p.names) c.change-refusal.ensures.alike ∙ ap (λ (z : Running g.row.P.Denot). z.standing.names) c.self.view_is

pub returns-clause-actions : goal.returns-clause-actions
returns-clause-actions g c =
    ap (λ (p : Standing). p.actions) c.change-refusal.ensures.alike ∙ ap (λ (z : Running g.row.P.Denot). z.standing.actions) c.self.view_is

pub returns-clause-keeps : goal.returns-clause-keeps
returns-clause-keeps g c =
    subst (λ (z : Running g.row.P.Denot). KeepsCurrent z.standing.state c.change-refusal.new.self.state) c.self.view_is c.change-refusal.ensures.keeps

pub returns-clause-sound : goal.returns-clause-sound
returns-clause-sound g c = λ calc is. c.change-refusal.ensures.sound calc
    (subst (λ (z : Running g.row.P.Denot). IsSound calc z.standing.state) (sym c.self.view_is) is)
