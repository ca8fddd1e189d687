use Rattle.std.proofs.Common.{◌≡◌, ◌++◌, ◌∙◌, ◌<◌, ◌^◌, ◌⊎◌, ℕ, ℤ, Option, None, Result, Err, unsigned_abs, refl, sym, ap, subst}
use Rattle.desk_bench.specs.Pricing.{desk_calc}
use Rattle.desk_terms.specs.declared.asked.Asked.{Asked}
use Rattle.desk_terms.specs.declared.value.Value.{Value}
use Rattle.desk_terms.specs.Asked.{Shows}
use Rattle.price_report.specs.Line.{refusal_line}
use Rattle.pricing_session.specs.Asking.{AnswersAsk}
use Rattle.pricing_session.specs.declared.fault.AskFault.{AskFault}
use Rattle.session_commands.specs.Parts.{parts_of, command_word}
use Rattle.session_commands.specs.Table.{row_of}
use Rattle.session_commands.specs.declared.command.Command.TheVariants.{Ask}
use Rattle.session_commands.specs.declared.refusal.Refusal.{Refusal}
use Rattle.session_core.specs.Values.{value_of}
use Rattle.session_model.specs.Course.{Running}
use Rattle.session_model.specs.Pricing.{asking}
use Rattle.session_model.specs.Standing.{Standing}
use Rattle.watch_rounds.specs.declared.picker.Order.{Order}
use Rattle.desk_c.specs.Calls.{standing_of, IsPriced, IsUnpriced, IsCurve}
use Rattle.desk_c.specs.declared.kept.Kept.{Kept}
use Rattle.desk_c.specs.declared.status.TheConstants.{UNPRICED, NOT_MONEY}
use Rattle.desk_c.proofs.AskLines.{shown}
use Rattle.desk_c.proofs.Answered.{Session, when_ok, when_err, in_ok, in_err, first_of, second_of, unequal, money, not_asked, asks, ask_cut}
use Rattle.desk_c.proofs.kept.Kept.ask.Goals as goal

pub returns-in-Err-Refused-clause-refused : goal.returns-in-Err-Refused-clause-refused
unfolding parts_of row_of
returns-in-Err-Refused-clause-refused c = λ is.
    let old = c.args.self.now in let name = c.in-Some.name in let why = c.in-Err-Refused.refusal in
    let err = c.in-Err-Refused.is ∙ ap (λ (f : AskFault). Err f) c.in-Err-Refused.field-0-is in
    let same : c.ask.new.self ≡ old.session = c.ask.ensures.same why err in
    not_asked c.args.name.now old name c.in-Some.ensures.place c.clear.new.self.items c.clear.ensures.items why c.refuse.new.self
    (c.refuse.ensures.same ∙ same)
    (subst (λ (r : Result Asked AskFault). AnswersAsk desk_calc name (standing_of old) c.ask.new.self.running.standing r old.session.bench.calls
    c.ask.new.self.bench.calls None None) err c.ask.ensures.answers)
    (subst (λ (s : Session). c.refuse.new.self.text.items ≡ c.clear.new.self.items ++ refusal_line s.running.standing.names
    s.running.standing.of_object (command_word (Ask name)) why) same
    (subst (λ (r : Refusal). c.refuse.new.self.text.items ≡ c.clear.new.self.items ++ refusal_line c.ask.new.self.running.standing.names
    c.ask.new.self.running.standing.of_object (command_word (Ask name)) r) c.in-Err-Refused.refusal-is (c.refuse.ensures.refused is)))

pub returns-then-is_err-clause-short : goal.returns-then-is_err-clause-short
returns-then-is_err-clause-short c = λ is.
    let mid : Kept = record { session = c.ask.new.self; text = c.clear.new.self } in
    ask_cut c.args.name.now c.args.self.now c.in-Some.name c.in-Some.ensures.place c.clear.new.self.items c.clear.ensures.items mid c.report.new.self
    c.report.ensures.same c.ask.ensures.rounds c.ask.ensures.beside c.in-Ok.asked c.in-Ok.ensures.answers
    (when_err c.report.result (c.report.new.self.text.items ≡ c.clear.new.self.items) (sym c.is_err.ensures.value ∙ c.if-is_err.true) c.report.ensures.err)

pub returns-in-Ok-worth-clause-prices : goal.returns-in-Ok-worth-clause-prices
returns-in-Ok-worth-clause-prices c = λ is.
    let old = c.args.self.now in let name = c.in-Some.name in let answer = c.in-Ok.asked in let was = c.in-Ok.ensures.answers in
    let mid : Kept = record { session = c.ask.new.self; text = c.clear.new.self } in
    let outcome = (asking desk_calc was.object (standing_of old).state).outcome in
    let shows = shown desk_calc name (standing_of old) (standing_of mid) answer old.session.bench.calls mid.session.bench.calls was in
    let value = c.value.ensures ∙ ap (λ (p : Standing). value_of p name) (c.deref-2.ensures ∙ ap (λ (r : Running Order). r.standing) c.deref.ensures) in
    let seen = subst (λ (v : Option Value). Shows answer.cause v outcome) (sym value) shows in
    let parts = c.in-Ok-worth.parts in
    let worth = in_ok (λ (ps : ℤ × ℤ). outcome ≡ money ps.0 ps.1) c.worth_of-worth.result parts c.in-Ok-worth.is (c.worth_of-worth.ensures.worth outcome seen) in
    let small = in_ok (λ (ps : ℤ × ℤ). unsigned_abs ps.1 < 10 ^ 18) c.worth_of-worth.result parts c.in-Ok-worth.is c.worth_of-worth.ensures.small in
    asks c.args.name.now old name c.in-Some.ensures.place c.clear.new.self.items c.clear.ensures.items mid c.report.new.self c.report.ensures.same
    c.ask.ensures.rounds c.ask.ensures.beside answer was (IsPriced c.lay_parts.new.high c.lay_parts.new.low c.mark_number.result answer.runs)
    (record {
      worth = worth ∙ ap (λ (h : ℤ). money h parts.1) (sym c.lay_parts.ensures.high) ∙ ap (λ (l : ℤ). money c.lay_parts.new.high l) (sym c.lay_parts.ensures.low);
      small = subst (λ (l : ℤ). unsigned_abs l < 10 ^ 18) (sym c.lay_parts.ensures.low) small;
      stands = c.mark_number.ensures;
      number = refl;
    })
    (when_ok c.report.result _ (sym c.is_err.ensures.value ∙ c.if-is_err.false) (c.report.ensures.ok outcome shows))

pub returns-in-Err-clause-unpriced : goal.returns-in-Err-clause-unpriced
returns-in-Err-clause-unpriced c = λ is.
    let old = c.args.self.now in let name = c.in-Some.name in let answer = c.in-Ok.asked in let was = c.in-Ok.ensures.answers in
    let mid : Kept = record { session = c.ask.new.self; text = c.clear.new.self } in
    let outcome = (asking desk_calc was.object (standing_of old).state).outcome in
    let shows = shown desk_calc name (standing_of old) (standing_of mid) answer old.session.bench.calls mid.session.bench.calls was in
    let value = c.value.ensures ∙ ap (λ (p : Standing). value_of p name) (c.deref-2.ensures ∙ ap (λ (r : Running Order). r.standing) c.deref.ensures) in
    let seen = subst (λ (v : Option Value). Shows answer.cause v outcome) (sym value) shows in
    asks c.args.name.now old name c.in-Some.ensures.place c.clear.new.self.items c.clear.ensures.items mid c.report.new.self c.report.ensures.same
    c.ask.ensures.rounds c.ask.ensures.beside answer was IsUnpriced
    (first_of c.in-Err.status UNPRICED NOT_MONEY (λ e. unequal e) is
    (in_err (λ (status : ℕ). ((status ≡ UNPRICED) × IsUnpriced outcome answer) ⊎ ((status ≡ NOT_MONEY) × IsCurve outcome answer)) c.worth_of-worth.result
    c.in-Err.status c.in-Err.is (c.worth_of-worth.ensures.status outcome seen)))
    (when_ok c.report.result _ (sym c.is_err.ensures.value ∙ c.if-is_err.false) (c.report.ensures.ok outcome shows))

pub returns-in-Err-clause-curve : goal.returns-in-Err-clause-curve
returns-in-Err-clause-curve c = λ is.
    let old = c.args.self.now in let name = c.in-Some.name in let answer = c.in-Ok.asked in let was = c.in-Ok.ensures.answers in
    let mid : Kept = record { session = c.ask.new.self; text = c.clear.new.self } in
    let outcome = (asking desk_calc was.object (standing_of old).state).outcome in
    let shows = shown desk_calc name (standing_of old) (standing_of mid) answer old.session.bench.calls mid.session.bench.calls was in
    let value = c.value.ensures ∙ ap (λ (p : Standing). value_of p name) (c.deref-2.ensures ∙ ap (λ (r : Running Order). r.standing) c.deref.ensures) in
    let seen = subst (λ (v : Option Value). Shows answer.cause v outcome) (sym value) shows in
    asks c.args.name.now old name c.in-Some.ensures.place c.clear.new.self.items c.clear.ensures.items mid c.report.new.self c.report.ensures.same
    c.ask.ensures.rounds c.ask.ensures.beside answer was IsCurve
    (second_of c.in-Err.status UNPRICED NOT_MONEY (λ e. unequal e) is
    (in_err (λ (status : ℕ). ((status ≡ UNPRICED) × IsUnpriced outcome answer) ⊎ ((status ≡ NOT_MONEY) × IsCurve outcome answer)) c.worth_of-worth.result
    c.in-Err.status c.in-Err.is (c.worth_of-worth.ensures.status outcome seen)))
    (when_ok c.report.result _ (sym c.is_err.ensures.value ∙ c.if-is_err.false) (c.report.ensures.ok outcome shows))
