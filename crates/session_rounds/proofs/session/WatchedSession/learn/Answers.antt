use Rattle.std.proofs.Common.{◌≡◌, ◌<◌, Bool, false, length, ◌∙◌, sym, ap, subst, arith}
use Rattle.std.specs.Prelude.{if◌then◌else◌}
use Rattle.std.proofs.lemmas.Bool.{false≢true}
use Rattle.desk_names.specs.Names.{has_text}
use Rattle.watch_rounds.specs.Round.{RoundsView, with_name}
use Rattle.session_model.specs.Course.{Running}
use Rattle.session_model.specs.Growing.{learn}
use Rattle.session_model.specs.Grown.{learn_in}
use Rattle.session_model.specs.Standing.{Standing}
use Rattle.session_rounds.specs.Fits.{Fits}
use Rattle.session_rounds.proofs.Larger.{fits_learnt}
use Rattle.session_rounds.proofs.session.WatchedSession.learn.Goals as goal

pub count_name-requires : goal.count_name-requires
count_name-requires g c = record {
  room = subst (λ (v : RoundsView). length v.round.tallies < v.names) (sym c.in_ok-reserve.ensures.ok)
      (let counted = c.self.invariant.0.counted in let many = c.len.ensures.len in let same = ap length c.names.ensures in
      omega (arith, counted, many, same));
}

pub invariant_of-self-2 : goal.invariant_of-self-2
invariant_of-self-2 g c =
    let r : Running g.row.P.Denot = record {
      standing = c.self.inside.session;
      round = c.self.inside.rounds.round;
      picker = c.self.inside.picker;
    } in
    let lacks : has_text c.self.inside.session.names c.args.text.now ≡ false =
    ap (λ (z : Running g.row.P.Denot). has_text z.standing.names c.args.text.now) c.self.view_is ∙ c.requires.new in
    let kept : c.intern.new.self ≡ learn c.args.text.now c.self.inside.session = c.in_ok-name.ensures.kept
    ∙ ap (λ (b : Bool). if b then c.self.inside.session else learn c.args.text.now c.self.inside.session) lacks in
    let counted = c.count_name.ensures.counted
    ∙ ap (λ (v : RoundsView). let z : RoundsView = record v { round = with_name v.round } in z) c.in_ok-reserve.ensures.ok in (
      subst (λ (v : RoundsView). Fits g.row.P.Denot (record r { standing = c.intern.new.self; round = v.round }) v.nodes) (sym counted)
          (subst (λ (p : Standing). Fits g.row.P.Denot (record r { standing = p; round = with_name r.round }) c.self.inside.rounds.nodes)
          (sym kept) (fits_learnt r c.self.inside.rounds.nodes c.args.text.now c.self.invariant.0)),
      (λ on. absurd (false≢true on), λ on. absurd (false≢true on)),
    )

pub returns-clause-learnt : goal.returns-clause-learnt
returns-clause-learnt g c =
    let r : Running g.row.P.Denot = record {
      standing = c.self.inside.session;
      round = c.self.inside.rounds.round;
      picker = c.self.inside.picker;
    } in
    let lacks : has_text c.self.inside.session.names c.args.text.now ≡ false =
    ap (λ (z : Running g.row.P.Denot). has_text z.standing.names c.args.text.now) c.self.view_is ∙ c.requires.new in
    let kept : c.intern.new.self ≡ learn c.args.text.now c.self.inside.session = c.in_ok-name.ensures.kept
    ∙ ap (λ (b : Bool). if b then c.self.inside.session else learn c.args.text.now c.self.inside.session) lacks in
    let counted = ap (λ (v : RoundsView). v.round) c.count_name.ensures.counted
    ∙ ap (λ (v : RoundsView). with_name v.round) c.in_ok-reserve.ensures.ok in
    let grown : (record r { standing = c.intern.new.self; round = c.count_name.new.self.round }) ≡ learn_in c.args.text.now r =
    (λ i. record r { standing = kept i; round = counted i }) in
    grown ∙ ap (λ (z : Running g.row.P.Denot). learn_in c.args.text.now z) c.self.view_is
