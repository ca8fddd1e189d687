use Rattle.std.proofs.Common.{◌≡◌, ◌++◌, sym, ap, subst}
use Rattle.std.specs.Prelude.{OnOk}
use Rattle.desk_terms.specs.Asked.{Shows}
use Rattle.desk_terms.specs.Reading.{Outcome, Calc}
use Rattle.desk_model.specs.Market.{terms_at}
use Rattle.desk_model.specs.State.{kept_at, shows}
use Rattle.session_model.specs.Standing.{Standing}
use Rattle.why_model.specs.Answer.{object_lines}
use Rattle.session_why.specs.Lasts.{HasWorkings, behind_in, line_in}
use Rattle.session_why.proofs.Pieces.{wrote_both}
use Rattle.session_why.proofs.Written.{IsWritten, written_then}
use Rattle.session_why.proofs.priced.push_priced.Goals as goal

pub push_behind-requires-clause-inputs : goal.push_behind-requires-clause-inputs
push_behind-requires-clause-inputs g c =
    subst (λ (z : Standing). HasWorkings z.state c.args.object c.in_ok-asked.asked.mark c.in_ok-asked.asked.cause)
    (sym (ap (λ r. r.standing) c.session.view_is))
    (written_then (g.B.Bench.calc c.args.bench.now) c.args.session.now.standing c.ask.new.session.standing c.args.object
    c.in_ok-asked.asked c.ask.ensures.before c.ask.ensures.after c.ask.ensures.sound c.requires.lazy
    c.in_ok-asked.ensures.answer).can

pub returns-clause-text : goal.returns-clause-text
returns-clause-text g c =
    let calc : Calc = g.B.Bench.calc c.args.bench.now in
    let p : Standing = c.args.session.now.standing in
    let q : Standing = c.ask.new.session.standing in
    let o = c.args.object in
    let asked = c.in_ok-asked.asked in
    let old = c.args.out.now.items in
    let line = c.push_line.new.out.items in
    let here : c.session.inside.session ≡ q = ap (λ r. r.standing) c.session.view_is in
    let w : IsWritten calc p q o asked.mark asked.cause =
    written_then calc p q o asked c.ask.ensures.before c.ask.ensures.after c.ask.ensures.sound c.requires.lazy
    c.in_ok-asked.ensures.answer in
    wrote_both c.push_behind.result old line c.push_behind.new.out.items
    (line_in q o (terms_at q.state.market o) asked.mark (shows calc p.state o)) (behind_in q o asked.mark asked.cause)
    (object_lines calc p o)
    (subst (λ (z : Standing). (outcome : Outcome) → Shows asked.cause (kept_at z.state o).last outcome
    → line ≡ old ++ line_in z o (terms_at z.state.market o) asked.mark outcome) here c.in_ok-push_line.ensures (shows calc p.state o) w.shown)
    w.text (subst (λ (z : Standing). OnOk c.push_behind.result (c.push_behind.new.out.items ≡ line ++ behind_in z o asked.mark asked.cause)) here
    c.push_behind.ensures.text)
