use Rattle.std.proofs.Common.{◌≡◌, ◌++◌, ◌∙◌, ℕ, ℤ, Option, None, Result, Err, refl, sym, ap, subst}
use Rattle.desk_bench.specs.Pricing.{desk_calc}
use Rattle.desk_terms.specs.declared.asked.Asked.{Asked}
use Rattle.desk_terms.specs.declared.cause.Cause.{Cause}
use Rattle.desk_terms.specs.declared.value.Value.{Value}
use Rattle.desk_terms.specs.Asked.{Shows}
use Rattle.price_report.specs.Line.{df_line}
use Rattle.pricing_session.specs.Asking.{AnswersAsk}
use Rattle.pricing_session.specs.declared.fault.AskFault.{AskFault}
use Rattle.session_commands.specs.Parts.{parts_of}
use Rattle.session_commands.specs.Table.{row_of}
use Rattle.session_core.specs.Values.{value_of}
use Rattle.session_model.specs.Course.{Running}
use Rattle.session_model.specs.Pricing.{asking, discount_in}
use Rattle.session_model.specs.Standing.{Standing}
use Rattle.watch_rounds.specs.declared.picker.Order.{Order}
use Rattle.desk_c.specs.Calls.{standing_of}
use Rattle.desk_c.specs.Curves.{Discounts, IsFactor, IsNoFactor}
use Rattle.desk_c.specs.Numbers.{day_of}
use Rattle.desk_c.specs.declared.kept.Kept.{Kept}
use Rattle.desk_c.proofs.AskLines.{shown}
use Rattle.desk_c.proofs.Answered.{when_ok, when_err, found_is, factor_is, no_curve, discounts, discount_cut}
use Rattle.desk_c.proofs.CurveKinds.{no_refusal, curve_same}
use Rattle.desk_c.proofs.kept.Kept.discount.Goals as goal

pub returns-in-Err-clause-refused : goal.returns-in-Err-clause-refused
unfolding parts_of row_of
returns-in-Err-clause-refused c = λ is.
    no_curve c.args.name.now c.args.self.now c.in-Some.name c.in-Some.ensures.place c.clear.new.self.items c.clear.ensures.items c.in-Err.refusal
    c.refuse.new.self c.refuse.ensures.same (day_of c.args.day) (sym c.curve.ensures ∙ c.in-Err.is) (c.refuse.ensures.refused is)

pub unreachable-requires : goal.unreachable-requires
unreachable-requires c =
    let old = c.args.self.now in let name = c.in-Some.name in
    no_refusal (standing_of old) name c.in-Ok.object c.in-Err-Refused.field-0-0 (sym c.curve.ensures ∙ c.in-Ok.is)
    (subst (λ (r : Result Asked AskFault). AnswersAsk desk_calc name (standing_of old) c.ask.new.self.running.standing r old.session.bench.calls
    c.ask.new.self.bench.calls None None) (c.in-Err-Refused.is ∙ ap (λ (f : AskFault). Err f) c.in-Err-Refused.field-0-is) c.ask.ensures.answers)

pub returns-then-is_err-clause-short : goal.returns-then-is_err-clause-short
returns-then-is_err-clause-short c = λ is.
    let mid : Kept = record { session = c.ask.new.self; text = c.clear.new.self } in
    discount_cut c.args.name.now c.args.self.now c.in-Some.name c.in-Some.ensures.place c.clear.new.self.items c.clear.ensures.items mid
    c.report_factor.new.self c.report_factor.ensures.same c.ask.ensures.rounds c.ask.ensures.beside c.in-Ok-ask.asked c.in-Ok-ask.ensures.answers
    (when_err c.report_factor.result (c.report_factor.new.self.text.items ≡ c.clear.new.self.items) (sym c.is_err.ensures.value ∙ c.if-is_err.true)
    c.report_factor.ensures.err)

pub returns-in-Ok-found-clause-found : goal.returns-in-Ok-found-clause-found
returns-in-Ok-found-clause-found c = λ is.
    let old = c.args.self.now in let name = c.in-Some.name in let answer = c.in-Ok-ask.asked in let was = c.in-Ok-ask.ensures.answers in
    let mid : Kept = record { session = c.ask.new.self; text = c.clear.new.self } in
    let day = c.in-Some-day_of.day in
    let outcome = (asking desk_calc was.object (standing_of old).state).outcome in
    let shows = shown desk_calc name (standing_of old) (standing_of mid) answer old.session.bench.calls mid.session.bench.calls was in
    let value = c.value.ensures ∙ ap (λ (p : Standing). value_of p name) (c.deref-2.ensures ∙ ap (λ (r : Running Order). r.standing) c.deref.ensures) in
    let seen = subst (λ (v : Option Value). Shows answer.cause v outcome) (sym value) shows in
    let priced = sym c.curve.ensures ∙ c.in-Ok.is in
    let object = curve_same (standing_of old) name was.object c.in-Ok.object was.found priced in
    let found = c.discount_in-found.ensures outcome seen ∙ ap (λ (o : ℕ). discount_in o day outcome) object in
    subst (λ (d : ℤ). Discounts c.args.name.now d (IsFactor c.lay_factor.new.units c.mark_number.result answer.runs) old c.report_factor.new.self)
    c.in-Some-day_of.ensures.value
    (discounts c.args.name.now old name c.in-Some.ensures.place c.clear.new.self.items c.clear.ensures.items mid c.report_factor.new.self
    c.report_factor.ensures.same c.ask.ensures.rounds c.ask.ensures.beside answer was day
    (IsFactor c.lay_factor.new.units c.mark_number.result answer.runs) (priced ∙ ap (λ (o : ℕ). found_is o) object)
    (record {
      factor = sym found ∙ c.in-Ok-found.is ∙ ap (λ (u : ℤ). factor_is u) (sym c.lay_factor.ensures);
      stands = c.mark_number.ensures;
      number = refl;
    })
    (when_ok c.report_factor.result _ (sym c.is_err.ensures.value ∙ c.if-is_err.false) c.report_factor.ensures.ok
    ∙ ap (λ (f : Result ℤ Cause). c.clear.new.self.items ++ df_line (standing_of mid).names (standing_of mid).of_object name day f answer.mark answer.runs) found))

pub returns-in-Err-found-clause-none : goal.returns-in-Err-found-clause-none
returns-in-Err-found-clause-none c = λ is.
    let old = c.args.self.now in let name = c.in-Some.name in let answer = c.in-Ok-ask.asked in let was = c.in-Ok-ask.ensures.answers in
    let mid : Kept = record { session = c.ask.new.self; text = c.clear.new.self } in
    let day = c.in-Some-day_of.day in
    let outcome = (asking desk_calc was.object (standing_of old).state).outcome in
    let shows = shown desk_calc name (standing_of old) (standing_of mid) answer old.session.bench.calls mid.session.bench.calls was in
    let value = c.value.ensures ∙ ap (λ (p : Standing). value_of p name) (c.deref-2.ensures ∙ ap (λ (r : Running Order). r.standing) c.deref.ensures) in
    let seen = subst (λ (v : Option Value). Shows answer.cause v outcome) (sym value) shows in
    let priced = sym c.curve.ensures ∙ c.in-Ok.is in
    let object = curve_same (standing_of old) name was.object c.in-Ok.object was.found priced in
    let found = c.discount_in-found.ensures outcome seen ∙ ap (λ (o : ℕ). discount_in o day outcome) object in
    subst (λ (d : ℤ). Discounts c.args.name.now d IsNoFactor old c.report_factor.new.self) c.in-Some-day_of.ensures.value
    (discounts c.args.name.now old name c.in-Some.ensures.place c.clear.new.self.items c.clear.ensures.items mid c.report_factor.new.self
    c.report_factor.ensures.same c.ask.ensures.rounds c.ask.ensures.beside answer was day IsNoFactor (priced ∙ ap (λ (o : ℕ). found_is o) object)
    (c.in-Err-found.field-0, sym found ∙ c.in-Err-found.is)
    (when_ok c.report_factor.result _ (sym c.is_err.ensures.value ∙ c.if-is_err.false) c.report_factor.ensures.ok
    ∙ ap (λ (f : Result ℤ Cause). c.clear.new.self.items ++ df_line (standing_of mid).names (standing_of mid).of_object name day f answer.mark answer.runs) found))
