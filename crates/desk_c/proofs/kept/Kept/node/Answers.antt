use Rattle.std.proofs.Common.{◌∙◌, ℕ, Some, sym, ap}
use Rattle.std.specs.Prelude.{option_copied}
use Rattle.curve_points.specs.Curve.{points}
use Rattle.desk_terms.specs.declared.value.Value.{Value}
use Rattle.session_core.specs.Values.{value_of}
use Rattle.session_model.specs.Course.{Running}
use Rattle.session_model.specs.Resolve.{find}
use Rattle.session_model.specs.Standing.{Standing}
use Rattle.session_model.specs.declared.place.Place.TheVariants.{Priced}
use Rattle.watch_rounds.specs.declared.picker.Order.{Order}
use Rattle.desk_c.specs.Calls.{standing_of}
use Rattle.desk_c.proofs.Answered.{ok_of, past_of}
use Rattle.desk_c.proofs.kept.Kept.node.Goals as goal

pub returns-in-None-clause-none : goal.returns-in-None-clause-none
returns-in-None-clause-none c = λ is.
    let old = c.args.self.now in
    let same = c.deref-2.ensures ∙ ap (λ (r : Running Order). r.standing) c.deref.ensures in
    let same4 = c.deref-4.ensures ∙ ap (λ (r : Running Order). r.standing) c.deref-3.ensures in
    let found = ok_of c.priced.result (sym c.is_err.ensures.value ∙ c.if-is_err.false) in (
      found.0,
      (
        sym (ap (λ (n : ℕ). find Priced (standing_of old) n) c.in-Some.ensures.place)
            ∙ sym (ap (λ (p : Standing). find Priced p c.in-Some.name) same) ∙ sym c.priced.ensures ∙ found.1,
        sym (ap (λ (n : ℕ). value_of (standing_of old) n) c.in-Some.ensures.place)
            ∙ sym (ap (λ (p : Standing). value_of p c.in-Some.name) same4) ∙ sym c.value.ensures ∙ ap (λ o. option_copied o) c.in-None.is,
      ),
    )

pub returns-in-None-node_of-clause-past : goal.returns-in-None-node_of-clause-past
returns-in-None-node_of-clause-past c = λ is.
    let old = c.args.self.now in let curve = c.in-Some-Curve.curve in
    let same = c.deref-4.ensures ∙ ap (λ (r : Running Order). r.standing) c.deref-3.ensures in
    record {
      curve = curve;
      is_curve = sym (ap (λ (n : ℕ). value_of (standing_of old) n) c.in-Some.ensures.place)
          ∙ sym (ap (λ (p : Standing). value_of p c.in-Some.name) same) ∙ sym c.value.ensures
          ∙ ap (λ o. option_copied o) c.in-Some-Curve.is ∙ ap (λ (v : Value). Some v) c.in-Some-Curve.field-0-is;
      past = past_of (points curve) c.args.at (sym c.node_of.ensures ∙ c.in-None-node_of.is);
      number = c.count_of.ensures;
    }
