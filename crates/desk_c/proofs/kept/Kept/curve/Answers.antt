use Rattle.std.proofs.Common.{◌∙◌, Bool, List, slice_index_or, Option, sym, ap}
use Rattle.desk_model.specs.Market.{kind_in}
use Rattle.desk_model.specs.State.{State}
use Rattle.desk_model.specs.declared.slot.Slot.{Slot}
use Rattle.desk_model.specs.declared.slot.Slot.TheVariants.{Free}
use Rattle.desk_terms.specs.declared.kind.Kind.{Kind}
use Rattle.session_model.specs.Course.{Running}
use Rattle.session_model.specs.Place.{takes_found}
use Rattle.session_model.specs.Resolve.{find, curve}
use Rattle.session_model.specs.Standing.{Standing}
use Rattle.session_model.specs.declared.place.Place.TheVariants.{Priced}
use Rattle.watch_rounds.specs.declared.picker.Order.{Order}
use Rattle.desk_c.specs.Calls.{standing_of}
use Rattle.desk_c.proofs.CurveKinds.{told, curve_found, curve_refused}
use Rattle.desk_c.proofs.kept.Kept.curve.Goals as goal

pub returns-then-is_curve : goal.returns-then-is_curve
returns-then-is_curve c =
    let p = standing_of c.args.self.now in let o = c.in-Ok.object in
    let found = sym (ap (λ (s : Standing). find Priced s c.args.name) (c.deref-2.ensures ∙ ap (λ (r : Running Order). r.standing) c.deref.ensures))
    ∙ sym c.priced.ensures ∙ c.in-Ok.is in
    let objects = c.deref-in-Ok-4.ensures ∙ ap (λ (s : State). s.market.objects) (c.deref-in-Ok-3.ensures ∙ ap (λ (s : Standing). s.state)
    (c.deref-in-Ok-2.ensures ∙ ap (λ (r : Running Order). r.standing) c.deref-in-Ok.ensures)) in
    let is = sym c.if-is_curve.true ∙ c.is_curve.ensures ∙ ap (λ (k : Option Kind). takes_found curve k)
    (c.kind.ensures ∙ ap (λ (slots : List Slot). kind_in (slice_index_or slots o Free)) objects) in
    sym (curve_found p c.args.name o found ∙ ap (λ (b : Bool). told c.args.name o b) (sym is))

pub returns-else-is_curve : goal.returns-else-is_curve
returns-else-is_curve c =
    let p = standing_of c.args.self.now in let o = c.in-Ok.object in
    let found = sym (ap (λ (s : Standing). find Priced s c.args.name) (c.deref-2.ensures ∙ ap (λ (r : Running Order). r.standing) c.deref.ensures))
    ∙ sym c.priced.ensures ∙ c.in-Ok.is in
    let objects = c.deref-in-Ok-4.ensures ∙ ap (λ (s : State). s.market.objects) (c.deref-in-Ok-3.ensures ∙ ap (λ (s : Standing). s.state)
    (c.deref-in-Ok-2.ensures ∙ ap (λ (r : Running Order). r.standing) c.deref-in-Ok.ensures)) in
    let is = sym c.if-is_curve.false ∙ c.is_curve.ensures ∙ ap (λ (k : Option Kind). takes_found curve k)
    (c.kind.ensures ∙ ap (λ (slots : List Slot). kind_in (slice_index_or slots o Free)) objects) in
    sym (curve_found p c.args.name o found ∙ ap (λ (b : Bool). told c.args.name o b) (sym is))

pub returns-in-Err : goal.returns-in-Err
returns-in-Err c =
    sym (curve_refused (standing_of c.args.self.now) c.args.name c.in-Err.refusal
    (sym (ap (λ (p : Standing). find Priced p c.args.name) (c.deref-2.ensures ∙ ap (λ (r : Running Order). r.standing) c.deref.ensures))
    ∙ sym c.priced.ensures ∙ c.in-Err.is))
