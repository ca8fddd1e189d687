use Rattle.std.proofs.Common.{◌≡◌, pos, ◌≤ℤ◌, ◌+ℤ◌, ◌-ℤ◌, arith, ap, ◌∙◌, sym, to_z, w32, FitsSigned, to_z-of_z, unsigned_abs}
use Rattle.std.proofs.lemmas.Int.{ints}
use Rattle.jiff_core.proofs.SignedLemmas.{signed_arith}
use Rattle.holiday_calendars.specs.Calendar.{is_business_day}
use Rattle.holiday_calendars.specs.Counted.{business_days}
use Rattle.holiday_calendars.proofs.CountLemmas.{business_days-one_more, business_days-no_more, count-none}
use Rattle.holiday_calendars.proofs.counting.business_days.Goals as goal
use Rattle.holiday_calendars.proofs.counting.business_days.Goals.{then-is_business, else-is_business}

pub loop-step-init : goal.loop-step-init
loop-step-init c =
    record { counted = ap pos (sym (count-none (is_business_day c.args.calendar.now) c.args.from)); low = omega (arith, ints); within = omega (arith, signed_arith, c.number.ensures, c.number-2.ensures, c.requires); small = omega (arith, ints) }

pub loop-step-preserved : goal.loop-step-preserved
loop-step-preserved c =
    let business = is_business_day c.args.calendar.now in
    let step = to_z w32 c.loop-step.step-bits in
    let count = to_z w32 c.loop-step.count-bits in
    let old = c.loop-step.invariant in
    let more : (step +ℤ pos 1) ≤ℤ (c.args.to -ℤ c.args.from) = omega (arith, signed_arith, c.number.ensures, c.number-2.ensures, c.loop-step-test.true) in
    let fits : FitsSigned w32 (step +ℤ pos 1) = omega (arith, signed_arith, more, old.low, c.number.ensures, c.number-2.ensures) in
    let back = to_z-of_z fits in
    elim c.if-is_business.branch [
      | then-is_business w ↦
          let is = ap business (sym c.later.ensures) ∙ sym c.is_business.ensures ∙ w.if-is_business.true in
          let one = business_days-one_more business c.args.from step old.low is in
          let room : FitsSigned w32 (count +ℤ pos 1) = omega (arith, signed_arith, more, old.low, old.small, old.counted, c.number.ensures, c.number-2.ensures) in
          let counted = w.count-is ∙ to_z-of_z room in
          rw back (record { counted = counted ∙ omega (arith, ints, old.counted, one); low = omega (arith, signed_arith, old.low); within = omega (arith, signed_arith, more, c.number.ensures, c.number-2.ensures); small = omega (arith, signed_arith, counted, old.small) })
      | else-is_business w ↦
          let is = ap business (sym c.later.ensures) ∙ sym c.is_business.ensures ∙ w.if-is_business.false in
          let none = business_days-no_more business c.args.from step old.low is in
          rw back (record { counted = w.count-is ∙ omega (arith, ints, old.counted, none); low = omega (arith, signed_arith, old.low); within = omega (arith, signed_arith, more, c.number.ensures, c.number-2.ensures); small = omega (arith, signed_arith, w.count-is, old.small) })
    ]

pub returns : goal.returns
returns c =
    let business = is_business_day c.args.calendar.now in
    let all : to_z w32 c.loop-step.step-bits ≡ c.args.to -ℤ c.args.from = omega (arith, signed_arith, c.number.ensures, c.number-2.ensures, c.loop-step-test.false, c.loop-step.invariant.within) in
    let value = c.loop-step.invariant.counted ∙ ap (λ z. pos (business_days (unsigned_abs z) business c.args.from)) all in
    record { value = value; high = omega (arith, signed_arith, all, c.number.ensures, c.number-2.ensures, c.loop-step.invariant.small) }
