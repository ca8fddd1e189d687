use Rattle.std.proofs.Common.{◌≡◌, ◌∙◌, ℕ, zero, suc, ◌<◌, false, true≢false, sym, ap, subst, ℤ, Vec, Global, length, arith}
use Rattle.std.specs.Prelude.{All, ◌==◌}
use Rattle.std.proofs.lemmas.List.Elements.{All-nil, All-push}
use Rattle.holiday_calendars.specs.declared.closures.Closure.{Closure}
use Rattle.holiday_calendars.specs.Closed.{closed_on}
use Rattle.holiday_calendars.specs.Stretch.{IsClosure}
use Rattle.holiday_calendars.proofs.StretchLemmas.{IsStretch, stretch-one, stretch-begun, stretch-longer}
use Rattle.holiday_calendars.proofs.closures.closures_of.Goals as goal
use Rattle.holiday_calendars.proofs.closures.closures_of.Goals.{then-not-is_joined, then-is_long+in_ok-push, else-is_long, else-not-is_joined, then-is_long-2+in_ok-push-2, else-is_long-2}

some : (n : ℕ) → (n == 0) ≡ false → 0 < n
some zero e = absurd (true≢false e)
some (suc n) e = omega arith

pub loop-day-init : goal.loop-day-init
loop-day-init c =
    let within = some (length c.args.days.now) (sym c.is_empty.ensures ∙ c.if-is_empty.false) in
    record {
      kept = subst (All (IsClosure (closed_on c.args.weekend c.args.days.now))) (sym c.new-closures.ensures.items)
          (All-nil (IsClosure (closed_on c.args.weekend c.args.days.now)));
      current = stretch-one c.args.weekend c.args.days.now 0 c.index-days-0.result within c.index-days-0.is;
    }

pub loop-day-preserved : goal.loop-day-preserved
loop-day-preserved c =
    let closed = closed_on c.args.weekend c.args.days.now in
    let end = c.weekend_end-last.result in
    let begun = stretch-begun c.args.weekend c.args.days.now c.loop-day.day-index c.day-item.result end c.loop-day-test.true c.day-item.is
    c.weekend_end-last.ensures.closed in
    elim c.if-not-is_joined.branch [
      | then-not-is_joined w ↦
          let current = subst (λ (first : ℤ). IsStretch c.args.weekend c.args.days.now first end) (sym w.first-is) begun in
          elim w.if-is_long.branch [
            | then-is_long+in_ok-push v ↦
                let items = ap (λ (z : Vec Closure Global). z.items) (w.closures-is ∙ v.closures-is) ∙ v.in_ok-push.ensures.items in
                let longer = All-push (IsClosure closed) c.loop-day.closures.items (record { first = c.loop-day.first; last = c.loop-day.last })
                c.loop-day.invariant.kept c.loop-day.invariant.current in
                record { kept = subst (All (IsClosure closed)) (sym items) longer; current = current }
            | else-is_long v ↦
                let items = ap (λ (z : Vec Closure Global). z.items) (w.closures-is ∙ v.closures-is) in
                record { kept = subst (All (IsClosure closed)) (sym items) c.loop-day.invariant.kept; current = current }
          ]
      | else-not-is_joined w ↦
          let items = ap (λ (z : Vec Closure Global). z.items) w.closures-is in
          let longer = stretch-longer c.args.weekend c.args.days.now c.loop-day.day-index c.loop-day.first c.loop-day.last c.day-item.result end
          c.loop-day-test.true c.day-item.is c.loop-day.invariant.current (c.is_joined.ensures w.if-not-is_joined.false)
          c.weekend_end-last.ensures.closed in
          record {
            kept = subst (All (IsClosure closed)) (sym items) c.loop-day.invariant.kept;
            current = subst (λ (first : ℤ). IsStretch c.args.weekend c.args.days.now first end) (sym w.first-is) longer;
          }
    ]

pub returns : goal.returns
returns c =
    let closed = closed_on c.args.weekend c.args.days.now in
    elim c.if-is_long-2.branch [
      | then-is_long-2+in_ok-push-2 w ↦
          let items = ap (λ (z : Vec Closure Global). z.items) w.closures-is ∙ w.in_ok-push-2.ensures.items in
          let longer = All-push (IsClosure closed) c.loop-day.closures.items (record { first = c.loop-day.first; last = c.loop-day.last })
          c.loop-day.invariant.kept c.loop-day.invariant.current in
          subst (All (IsClosure closed)) (sym items) longer
      | else-is_long-2 w ↦
          let items = ap (λ (z : Vec Closure Global). z.items) w.closures-is in
          subst (All (IsClosure closed)) (sym items) c.loop-day.invariant.kept
    ]
