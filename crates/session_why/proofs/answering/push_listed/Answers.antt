use Rattle.std.proofs.Common.{◌≡◌, List, ℕ, ◌++◌, ◌∙◌, ap, subst}
use Rattle.std.specs.Prelude.{is_ok, OnOk}
use Rattle.std.proofs.lemmas.Result.{err_from_is_err_and}
use Rattle.desk_terms.specs.Reading.{Calc}
use Rattle.desk_model.specs.State.{State}
use Rattle.desk_model.specs.Links.{IsWhole}
use Rattle.desk_model.specs.Visit.{runs, asked}
use Rattle.session_model.specs.declared.act.How.TheVariants.{Ask}
use Rattle.session_model.specs.Pricing.{asking}
use Rattle.session_model.specs.Standing.{Standing}
use Rattle.session_model.specs.Turn.{line_of}
use Rattle.bump_model.specs.Asking.{Asks, MadeFront, ask_of}
use Rattle.bump_model.proofs.Calls.{front_first}
use Rattle.why_model.specs.Answer.{lines_of_each}
use Rattle.why_model.specs.Listing.{listing}
use Rattle.session_why.specs.Computed.{ask_each, asks_of}
use Rattle.session_why.proofs.Alike.{with_state}
use Rattle.session_why.proofs.Answered.{lines_behind}
use Rattle.session_why.proofs.Counted.{asks_failed, asks_more}
use Rattle.session_why.proofs.answering.push_listed.Goals as goal

pub returns-in_err-push_asked-clause-asks : goal.returns-in_err-push_asked-clause-asks
returns-in_err-push_asked-clause-asks g c =
    let calc : Calc = g.B.Bench.calc c.args.bench.now in
    let s : State = c.args.session.now.standing.state in
    let o = c.args.object in
    let same = c.list_all.ensures.same ∙ ap (λ r. r.standing) c.session.view_is in
    let p = err_from_is_err_and c.from_residual-in_err-push_asked.result c.from_residual-in_err-push_asked.ensures.1 in
    asks_failed (asks_of calc o s) c.from_residual-in_err-push_asked.result c.push_asked.new.session.standing.state
    (g.B.Bench.count c.args.bench.now) (g.B.Bench.count c.push_asked.new.bench)
    (g.B.Bench.log c.args.bench.now) (g.B.Bench.log c.push_asked.new.bench) p.0 p.1
    (front_first (runs calc s o) (ask_each calc (listing s o) (asked calc o s)).calls
    (g.B.Bench.count c.args.bench.now) (g.B.Bench.count c.push_asked.new.bench)
    (g.B.Bench.log c.args.bench.now) (g.B.Bench.log c.push_asked.new.bench)
    (subst (λ (z : Standing). MadeFront (runs calc z.state o) (g.B.Bench.count c.args.bench.now)
    (g.B.Bench.count c.push_asked.new.bench) (g.B.Bench.log c.args.bench.now) (g.B.Bench.log c.push_asked.new.bench))
    same c.in_err-push_asked.ensures.asks))

pub returns-clause-text : goal.returns-clause-text
returns-clause-text g c =
    let calc : Calc = g.B.Bench.calc c.args.bench.now in
    let p : Standing = c.args.session.now.standing in
    let q : Standing = c.push_asked.new.session.standing in
    let o = c.args.object in
    let old = c.args.out.now.items in
    let middle = c.push_asked.new.out.items in
    let new = c.push_each.new.out.items in
    let here : c.session.inside.session ≡ c.args.session.now.standing = ap (λ r. r.standing) c.session.view_is in
    let same = c.list_all.ensures.same ∙ here in
    let keys : c.as_slice.result.now ≡ listing p.state o =
    c.as_slice.ensures.keys ∙ c.in_ok-list_all.ensures.list ∙ ap (λ (z : Standing). listing z.state o) here in
    lines_behind calc p q o (listing p.state o) old middle new (line_of p c.args.name o Ask (asking calc o p.state))
    c.push_each.result
    (subst IsWhole (c.deref-2.ensures ∙ ap (λ (p : Standing). p.state) c.deref.ensures) c.shape.ensures.whole)
    (ap (λ r. r.standing) c.push_asked.ensures.stays ∙ ap (λ (z : Standing). with_state z q.state) same)
    (c.in_ok-push_asked.ensures.asks.0 ∙ ap (λ (z : Standing). asked calc o z.state) same)
    (c.in_ok-push_asked.ensures.text ∙ ap (λ (z : Standing). old ++ line_of z c.args.name o Ask (asking calc o z.state))
    same)
    (subst (λ (l : List ℕ). OnOk c.push_each.result (new ≡ middle ++ lines_of_each calc q l)) keys
    (subst (λ (k : Calc). OnOk c.push_each.result (new ≡ middle ++ lines_of_each k q c.as_slice.result.now))
    c.push_asked.ensures.same c.push_each.ensures.text))

pub returns-clause-asks : goal.returns-clause-asks
returns-clause-asks g c =
    let calc : Calc = g.B.Bench.calc c.args.bench.now in
    let s : State = c.args.session.now.standing.state in
    let q : Standing = c.push_asked.new.session.standing in
    let o = c.args.object in
    let here : c.session.inside.session ≡ c.args.session.now.standing = ap (λ r. r.standing) c.session.view_is in
    let same = c.list_all.ensures.same ∙ here in
    let keys : c.as_slice.result.now ≡ listing s o =
    c.as_slice.ensures.keys ∙ c.in_ok-list_all.ensures.list ∙ ap (λ (z : Standing). listing z.state o) here in
    asks_more (ask_of calc o s) (ask_each calc (listing s o)) c.push_asked.result c.push_each.result
    q.state c.push_each.new.session.standing.state (g.B.Bench.count c.args.bench.now)
    (g.B.Bench.count c.push_asked.new.bench)
    (g.B.Bench.count c.push_each.new.bench) (g.B.Bench.log c.args.bench.now) (g.B.Bench.log c.push_asked.new.bench)
    (g.B.Bench.log c.push_each.new.bench) (ap (λ r. is_ok r) c.in_ok-push_asked.was)
    (subst (λ (z : Standing). Asks (ask_of calc o z.state) c.push_asked.result q.state
    (g.B.Bench.count c.args.bench.now)
    (g.B.Bench.count c.push_asked.new.bench) (g.B.Bench.log c.args.bench.now) (g.B.Bench.log c.push_asked.new.bench))
    same c.push_asked.ensures.asks)
    (subst (λ (l : List ℕ). Asks (ask_each calc l q.state) c.push_each.result c.push_each.new.session.standing.state
    (g.B.Bench.count c.push_asked.new.bench) (g.B.Bench.count c.push_each.new.bench)
    (g.B.Bench.log c.push_asked.new.bench) (g.B.Bench.log c.push_each.new.bench)) keys
    (subst (λ (k : Calc). Asks (ask_each k c.as_slice.result.now q.state) c.push_each.result
    c.push_each.new.session.standing.state
    (g.B.Bench.count c.push_asked.new.bench) (g.B.Bench.count c.push_each.new.bench)
    (g.B.Bench.log c.push_asked.new.bench) (g.B.Bench.log c.push_each.new.bench)) c.push_asked.ensures.same
    c.push_each.ensures.asks))

pub list_all-requires-clause-empty : goal.list_all-requires-clause-empty
list_all-requires-clause-empty g c = c.requires.empty
