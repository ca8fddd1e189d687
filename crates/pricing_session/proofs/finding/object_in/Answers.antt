use Rattle.std.proofs.Common.{◌≡◌, ◌∙◌, ◌<◌, ◌≤◌, ◌==◌, ℕ, true, arith, List, length, sym, ap}
use Rattle.std.specs.Prelude.{is_some, slice_index_or}
use Rattle.desk_model.specs.declared.slot.Slot.{Slot}
use Rattle.desk_model.specs.declared.slot.Slot.TheVariants.{Free}
use Rattle.desk_model.specs.State.{State}
use Rattle.desk_model.specs.Market.{kind_in, slot_at}
use Rattle.pricing_session.proofs.Found.{named_here, named_later, dead_later, named_done}
use Rattle.pricing_session.proofs.finding.object_in.Goals as goal
use Rattle.pricing_session.proofs.finding.object_in.Goals.{else-eq-via-then-eq+else-is_some, else-eq-via-else-eq}

pub returns-then-is_some : goal.returns-then-is_some
returns-then-is_some c =
    let session = c.args.session.now in
    let number = c.loop-number.number in
    let within : number < length session.of_object = let end = c.numbers-number-end.ensures.numbers in let less = c.loop-number-test.true in omega (arith, end, less) in
    let same : (slice_index_or session.of_object number 0 == c.args.name) ≡ true =
    ap (λ (n : ℕ). n == c.args.name) (sym c.name_of.ensures) ∙ sym c.eq.ensures ∙ c.if-eq.true in
    let live : is_some (kind_in (slot_at session.state.market number)) ≡ true =
    ap (λ (l : List Slot). is_some (kind_in (slice_index_or l number Free))) (sym (c.deref.ensures ∙ ap (λ (s : State). s.market.objects) c.desk.ensures))
    ∙ ap is_some (sym c.kind.ensures) ∙ sym c.is_some.ensures ∙ c.if-is_some.true in
    sym (c.loop-number.invariant ∙ named_here session.state.market c.args.name number session.of_object within same live)

pub loop-number-preserved : goal.loop-number-preserved
loop-number-preserved c =
    let session = c.args.session.now in
    let number = c.loop-number.number in
    let within : number < length session.of_object = let end = c.numbers-number-end.ensures.numbers in let less = c.loop-number-test.true in omega (arith, end, less) in
    let same = ap (λ (n : ℕ). n == c.args.name) (sym c.name_of.ensures) ∙ sym c.eq.ensures in
    c.loop-number.invariant ∙ (elim c.else-eq.branch [
      | else-eq-via-then-eq+else-is_some w ↦
          dead_later session.state.market c.args.name number session.of_object within (same ∙ w.if-eq.true)
          (ap (λ (l : List Slot). is_some (kind_in (slice_index_or l number Free))) (sym (w.deref.ensures ∙ ap (λ (s : State). s.market.objects) w.desk.ensures))
          ∙ ap is_some (sym w.kind.ensures) ∙ sym w.is_some.ensures ∙ w.if-is_some.false)
      | else-eq-via-else-eq w ↦ named_later session.state.market c.args.name number session.of_object within (same ∙ w.if-eq.false)
    ])

pub returns : goal.returns
returns c =
    let session = c.args.session.now in
    let past : length session.of_object ≤ c.loop-number.number = let end = c.numbers-number-end.ensures.numbers in let more = c.loop-number-test.false in omega (arith, end, more) in
    sym (c.loop-number.invariant ∙ named_done session.state.market c.args.name c.loop-number.number session.of_object past)
