use Rattle.std.proofs.Common.{◌≡◌, ◌++◌, ◌∙◌, List, ℕ, Ok, Err, refl, sym, ap, subst, append_assoc}
use Rattle.std.specs.Prelude.{codes}
use Rattle.std.proofs.lemmas.Result.{IfOk-equal}
use Rattle.desk_names.specs.Names.{has_text, place_of}
use Rattle.desk_terms.specs.Reading.{Calc}
use Rattle.session_commands.specs.declared.refusal.Refusal.TheVariants.{Unknown}
use Rattle.session_core.proofs.Resolved.{found_lazy}
use Rattle.session_model.specs.declared.act.How.TheVariants.{Ask}
use Rattle.session_model.specs.declared.place.Place.TheVariants.{Priced}
use Rattle.session_model.specs.Pricing.{asking}
use Rattle.session_model.specs.Resolve.{find}
use Rattle.session_model.specs.Standing.{Standing}
use Rattle.session_model.specs.Turn.{line_of}
use Rattle.bump_model.specs.Asking.{Asking, Asks}
use Rattle.why_model.specs.Answer.{lines_of_each}
use Rattle.why_model.specs.Listing.{listing}
use Rattle.session_why.proofs.Answered.{none_named, one_named, answered, asking_is, refused_is}
use Rattle.session_why.proofs.Counted.{asks_none}
use Rattle.session_why.proofs.answering.push_found.Goals as goal

pub push_answer-requires-clause-lazy : goal.push_answer-requires-clause-lazy
push_answer-requires-clause-lazy g c =
    found_lazy c.args.session.now.standing c.in-Some.name c.in-Ok.object
    (sym (c.in-Ok.ensures ∙ ap (λ (z : Standing). find Priced z c.in-Some.name) c.session-in-Some.ensures))

pub returns-in-None-clause-text : goal.returns-in-None-clause-text
returns-in-None-clause-text g c =
    let calc : Calc = g.B.Bench.calc c.args.bench.now in
    let p : Standing = c.args.session.now.standing in
    let text = c.args.text.now in
    let names : c.names.result.now ≡ p.names = c.names.ensures ∙ ap (λ (z : Standing). z.names) c.session.ensures in
    let none =
    none_named calc p text (sym (c.in-None.ensures.found ∙ ap (λ (l : List (List ℕ)). has_text l text) names)) in
    IfOk-equal c.push_refused.result c.push_refused.new.out.items _ _
    (refused_is (Unknown (place_of p.names text)) text (codes "unknown") c.args.out.now.items
    c.push_refused.new.out.items
    c.push_refused.result refl c.push_refused.ensures)
    (ap (λ (l : List ℕ). c.args.out.now.items ++ l)
    (sym (answered calc p text (Err (Unknown (place_of p.names text))) none)))

pub returns-in-None-clause-asks : goal.returns-in-None-clause-asks
returns-in-None-clause-asks g c =
    let calc : Calc = g.B.Bench.calc c.args.bench.now in
    let p : Standing = c.args.session.now.standing in
    let text = c.args.text.now in
    let names : c.names.result.now ≡ p.names = c.names.ensures ∙ ap (λ (z : Standing). z.names) c.session.ensures in
    let none =
    none_named calc p text (sym (c.in-None.ensures.found ∙ ap (λ (l : List (List ℕ)). has_text l text) names)) in
    subst (λ (a : Asking). Asks a c.push_refused.result p.state (g.B.Bench.count c.args.bench.now)
    (g.B.Bench.count c.args.bench.now)
    (g.B.Bench.log c.args.bench.now) (g.B.Bench.log c.args.bench.now))
    (sym (asking_is calc p text (Err (Unknown (place_of p.names text))) none))
    (asks_none p.state c.push_refused.result (g.B.Bench.count c.args.bench.now) (g.B.Bench.log c.args.bench.now))

pub returns-in-Ok-clause-text : goal.returns-in-Ok-clause-text
returns-in-Ok-clause-text g c =
    let calc : Calc = g.B.Bench.calc c.args.bench.now in
    let p : Standing = c.args.session.now.standing in
    let text = c.args.text.now in
    let o = c.in-Ok.object in
    let old = c.args.out.now.items in
    let lines = lines_of_each calc p (listing p.state o) in
    let names : c.names.result.now ≡ p.names = c.names.ensures ∙ ap (λ (z : Standing). z.names) c.session.ensures in
    let named : c.in-Some.name ≡ place_of p.names text =
    c.in-Some.ensures.place ∙ ap (λ (l : List (List ℕ)). place_of l text) names in
    let one = one_named calc p text c.in-Some.name (Ok o)
    (sym (c.in-Some.ensures.found ∙ ap (λ (l : List (List ℕ)). has_text l text) names)) named
    (c.in-Ok.ensures ∙ ap (λ (z : Standing). find Priced z c.in-Some.name) c.session-in-Some.ensures) in
    IfOk-equal c.push_answer.result c.push_answer.new.out.items _ _ c.push_answer.ensures.text
    (append_assoc old (line_of p c.in-Some.name o Ask (asking calc o p.state)) lines
    ∙ ap (λ (n : ℕ). old ++ (line_of p n o Ask (asking calc o p.state) ++ lines)) named
    ∙ ap (λ (l : List ℕ). old ++ l) (sym (answered calc p text (Ok o) one)))

pub returns-in-Ok-clause-asks : goal.returns-in-Ok-clause-asks
returns-in-Ok-clause-asks g c =
    let calc : Calc = g.B.Bench.calc c.args.bench.now in
    let p : Standing = c.args.session.now.standing in
    let text = c.args.text.now in
    let o = c.in-Ok.object in
    let names : c.names.result.now ≡ p.names = c.names.ensures ∙ ap (λ (z : Standing). z.names) c.session.ensures in
    let one = one_named calc p text c.in-Some.name (Ok o)
    (sym (c.in-Some.ensures.found ∙ ap (λ (l : List (List ℕ)). has_text l text) names))
    (c.in-Some.ensures.place ∙ ap (λ (l : List (List ℕ)). place_of l text) names)
    (c.in-Ok.ensures ∙ ap (λ (z : Standing). find Priced z c.in-Some.name) c.session-in-Some.ensures) in
    subst (λ (a : Asking). Asks a c.push_answer.result c.push_answer.new.session.standing.state
    (g.B.Bench.count c.args.bench.now) (g.B.Bench.count c.push_answer.new.bench)
    (g.B.Bench.log c.args.bench.now) (g.B.Bench.log c.push_answer.new.bench))
    (sym (asking_is calc p text (Ok o) one)) c.push_answer.ensures.asks

pub returns-in-Err-clause-text : goal.returns-in-Err-clause-text
returns-in-Err-clause-text g c =
    let calc : Calc = g.B.Bench.calc c.args.bench.now in
    let p : Standing = c.args.session.now.standing in
    let text = c.args.text.now in
    let names : c.names.result.now ≡ p.names = c.names.ensures ∙ ap (λ (z : Standing). z.names) c.session.ensures in
    let one = one_named calc p text c.in-Some.name (Err c.in-Err.refusal)
    (sym (c.in-Some.ensures.found ∙ ap (λ (l : List (List ℕ)). has_text l text) names))
    (c.in-Some.ensures.place ∙ ap (λ (l : List (List ℕ)). place_of l text) names)
    (c.in-Err.ensures ∙ ap (λ (z : Standing). find Priced z c.in-Some.name) c.session-in-Some.ensures) in
    IfOk-equal c.push_refused-in-Err.result c.push_refused-in-Err.new.out.items _ _
    (refused_is c.in-Err.refusal text c.word.result.now c.args.out.now.items c.push_refused-in-Err.new.out.items
    c.push_refused-in-Err.result c.word.ensures c.push_refused-in-Err.ensures)
    (ap (λ (l : List ℕ). c.args.out.now.items ++ l) (sym (answered calc p text (Err c.in-Err.refusal) one)))

pub returns-in-Err-clause-asks : goal.returns-in-Err-clause-asks
returns-in-Err-clause-asks g c =
    let calc : Calc = g.B.Bench.calc c.args.bench.now in
    let p : Standing = c.args.session.now.standing in
    let text = c.args.text.now in
    let names : c.names.result.now ≡ p.names = c.names.ensures ∙ ap (λ (z : Standing). z.names) c.session.ensures in
    let one = one_named calc p text c.in-Some.name (Err c.in-Err.refusal)
    (sym (c.in-Some.ensures.found ∙ ap (λ (l : List (List ℕ)). has_text l text) names))
    (c.in-Some.ensures.place ∙ ap (λ (l : List (List ℕ)). place_of l text) names)
    (c.in-Err.ensures ∙ ap (λ (z : Standing). find Priced z c.in-Some.name) c.session-in-Some.ensures) in
    subst (λ (a : Asking). Asks a c.push_refused-in-Err.result p.state (g.B.Bench.count c.args.bench.now)
    (g.B.Bench.count c.args.bench.now) (g.B.Bench.log c.args.bench.now) (g.B.Bench.log c.args.bench.now))
    (sym (asking_is calc p text (Err c.in-Err.refusal) one))
    (asks_none p.state c.push_refused-in-Err.result (g.B.Bench.count c.args.bench.now) (g.B.Bench.log c.args.bench.now))
