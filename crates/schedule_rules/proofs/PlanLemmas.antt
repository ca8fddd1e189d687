-- What the terms of a plan tell of its steps.
use Rattle.std.proofs.Common.{◌≡◌, ℕ, zero, suc, ◌-◌, ◌*◌, ◌≤◌, Bool, true, false, not, ◌&&◌, if◌then◌else◌, [], ◌∷◌, Option, Some, None, refl, sym, ap, ◌∙◌, arith, ℤ, pos, neg_ℤ, ◌-ℤ◌, ◌<ℤ◌, ◌≤ℤ◌, ◌*ℤ◌, unsigned_abs}
use Rattle.std.specs.Prelude.{unwrap_or}
use Rattle.std.proofs.lemmas.Int.{ints, by_lt_z}
use Rattle.std.proofs.lemmas.Nat.{le-div}
use Rattle.std.proofs.Math.Nat.{one-le-mul}
use Rattle.std.specs.Int.Signed.{le_z}
use Rattle.jiff_core.proofs.SignedLemmas.{signed_arith}
use Rattle.day_number.specs.declared.tenors.Unit.{Unit as TimeUnit}
use Rattle.day_number.specs.declared.tenors.Unit.TheVariants.{Days, Weeks, Months, Years}
use Rattle.day_number.specs.Day.{IsDayNumber}
use Rattle.day_shift.specs.Adjusted.{kept_or}
use Rattle.day_shift.proofs.SearchLemmas.{le_z-true, le_z-false}
use Rattle.day_shift.proofs.SetLemmas.{by_test, by_option}
use Rattle.schedule_rules.specs.declared.plans.Rule.{Rule}
use Rattle.schedule_rules.specs.declared.plans.Rule.TheVariants.{Backward, Forward, Zero}
use Rattle.schedule_rules.specs.declared.plans.Plan.{Plan}
use Rattle.schedule_rules.specs.declared.faults.PlanFault.TheVariants.{Order, Tenor as TenorFault, Stub}
use Rattle.schedule_rules.specs.Step.{moved, seed_by, count_by, is_inside, step, least_days, most_steps, steps_from}
use Rattle.schedule_rules.specs.Terms.{has_steps, is_tenor, is_stub, are_in_order, fault_of_terms}
use Rattle.schedule_rules.proofs.MoveLemmas.{moved-nearer_on, moved-nearer_back, moved-far_on, moved-far_back}

-- what a test on a plan's terms tells
passed : (order tenor stubs : Bool) → (if order then Some Order else (if tenor then Some TenorFault else (if stubs then None else Some Stub))) ≡ None → (order ≡ false) × (tenor ≡ false) × (stubs ≡ true)
passed true tenor stubs e = absurd (cc)
passed false true stubs e = absurd (cc)
passed false false true e = (refl, refl, refl)
passed false false false e = absurd (cc)

all_three : (a b c : Bool) → (a && b && c) ≡ true → (a ≡ true) × (b ≡ true) × (c ≡ true)
all_three true true true e = (refl, refl, refl)
all_three true true false e = absurd (cc)
all_three true false c e = absurd (cc)
all_three false b c e = absurd (cc)

fine : (steps tenor : Bool) → (steps && not tenor) ≡ false → steps ≡ true → tenor ≡ true
fine true true e s = refl
fine true false e s = absurd (cc)
fine false tenor e s = absurd (cc)

both_true : (a b : Bool) → (a && b) ≡ true → (a ≡ true) × (b ≡ true)
both_true true true e = (refl, refl)
both_true true false e = absurd (cc)
both_true false b e = absurd (cc)

pub after : (a b : ℤ) → not (le_z a b) ≡ true → b <ℤ a
after a b e = by_lt_z b a (λ lt. lt) (λ ge. let is = le_z-true a b ge in absurd (cc))

-- the terms of a plan in order
pub record InOrder (plan : Plan) : Type 0 where
  pub order : plan.start <ℤ plan.end
  pub tenor : has_steps plan.rule ≡ true → pos 1 ≤ℤ plan.tenor.count
  pub first : (day : ℤ) → plan.first ≡ Some day → (plan.start <ℤ day) × (day <ℤ plan.end)
  pub last : (day : ℤ) → plan.last ≡ Some day → (plan.start <ℤ day) × (day <ℤ plan.end)

stub_between : (plan : Plan) (stub : Option ℤ) (day : ℤ) → is_stub plan stub ≡ true → stub ≡ Some day → (plan.start <ℤ day) × (day <ℤ plan.end)
stub_between plan stub day e is =
    let own : is_stub plan (Some day) ≡ true = rw is at e in
    let tests = all_three (has_steps plan.rule) (not (le_z day plan.start)) (not (le_z plan.end day)) own in
    (after day plan.start tests.1, after plan.end day tests.2)

pub in_order : (plan : Plan) → fault_of_terms plan ≡ None → InOrder plan
in_order plan e =
    let tests = passed (le_z plan.end plan.start) (has_steps plan.rule && not (is_tenor plan.tenor)) (is_stub plan plan.first && is_stub plan plan.last && are_in_order plan.first plan.last) e in
    let stubs = all_three (is_stub plan plan.first) (is_stub plan plan.last) (are_in_order plan.first plan.last) tests.2 in
    record {
      order = by_lt_z plan.start plan.end (λ lt. lt) (λ ge. let is = le_z-true plan.end plan.start ge in let no = tests.0 in absurd (cc));
      tenor = λ steps.
          let own = fine (has_steps plan.rule) (is_tenor plan.tenor) tests.1 steps in
          let low = (both_true (le_z (pos 1) plan.tenor.count) _ own).0 in
          by_lt_z plan.tenor.count (pos 1) (λ lt. let no = le_z-false (pos 1) plan.tenor.count lt in absurd (cc)) (λ ge. ge);
      first = λ day is. stub_between plan plan.first day stubs.0 is;
      last = λ day is. stub_between plan plan.last day stubs.1 is;
    }

-- a stub's day, or an end of the plan, is within the plan
within : (stub : Option ℤ) (other low high : ℤ) → ((day : ℤ) → stub ≡ Some day → (low <ℤ day) × (day <ℤ high)) → low ≤ℤ other → other ≤ℤ high → (low ≤ℤ unwrap_or stub other) × (unwrap_or stub other ≤ℤ high)
within (Some day) other low high between a b =
    let own = between day refl in
    (omega (arith, signed_arith, own.0), omega (arith, signed_arith, own.1))
within None other low high between a b = (a, b)

kept : (passes : ℤ → Bool) (o : Option ℤ) (day : ℤ) → kept_or passes o None ≡ Some day → (o ≡ Some day) × (passes day ≡ true)
kept passes None day e = absurd (cc)
kept passes (Some x) day e =
    by_test (passes x)
    (λ holds.
    let is = ap (λ b. if b then Some x else None) holds in
    let same : x ≡ day = cc in
    (ap Some same, ap passes (sym same) ∙ holds))
    (λ fails. let no = ap (λ b. if b then Some x else None) fails in absurd (cc))

keeps : (passes : ℤ → Bool) (o : Option ℤ) (day : ℤ) → o ≡ Some day → passes day ≡ true → kept_or passes o None ≡ Some day
keeps passes o day is holds =
    ap (λ x. kept_or passes x None) is ∙ ap (λ b. if b then Some day else None) holds

-- the day of a step by a rule, before it is known to be inside
abbrev led : Rule → Plan → ℕ → Option ℤ
led rule plan k = moved plan.eom plan.tenor.unit (seed_by rule plan) (count_by rule plan.tenor k)

step-is : (plan : Plan) (k : ℕ) (day : ℤ) → step plan k ≡ Some day → (led plan.rule plan k ≡ Some day) × (is_inside plan.rule plan day ≡ true)
unfolding step
step-is plan k day e = kept (is_inside plan.rule plan) (led plan.rule plan k) day e

step-of : (plan : Plan) (k : ℕ) (day : ℤ) → led plan.rule plan k ≡ Some day → is_inside plan.rule plan day ≡ true → step plan k ≡ Some day
unfolding step
step-of plan k day is inside = keeps (is_inside plan.rule plan) (led plan.rule plan k) day is inside

-- k tenors
product : (k : ℕ) (count : ℤ) → pos 1 ≤ℤ count → pos k *ℤ count ≡ pos (k * unsigned_abs count)
product k count h =
    let whole : count ≡ pos (unsigned_abs count) = omega (arith, ints) in
    ap (λ z. pos k *ℤ z) whole ∙ refl

positive : (k c : ℕ) → 1 ≤ k → 1 ≤ c → 1 ≤ k * c
positive k c h g = one-le-mul h g

least-positive : (unit : TimeUnit) → 1 ≤ least_days unit
least-positive Days = omega arith
least-positive Weeks = omega arith
least-positive Months = omega arith
least-positive Years = omega arith

regroup : (k c l : ℕ) → k * (c * l) ≡ k * c * l
regroup k c l = grind arith

abbrev size : Plan → ℕ
size plan = unsigned_abs plan.tenor.count * least_days plan.tenor.unit

fits : (plan : Plan) (k : ℕ) → pos 1 ≤ℤ plan.tenor.count → k * unsigned_abs plan.tenor.count * least_days plan.tenor.unit ≤ unsigned_abs (plan.end -ℤ plan.start) → k ≤ most_steps plan
fits plan k h le =
    let c : 1 ≤ unsigned_abs plan.tenor.count = omega (arith, ints) in
    let big = positive (unsigned_abs plan.tenor.count) (least_days plan.tenor.unit) c (least-positive plan.tenor.unit) in
    let same = regroup k (unsigned_abs plan.tenor.count) (least_days plan.tenor.unit) in
    le-div k (unsigned_abs (plan.end -ℤ plan.start)) (size plan) big (omega (arith, same))

-- a step that is inside lies between start and end, and has room
pub record Room (plan : Plan) (k : ℕ) (day : ℤ) : Type 0 where
  pub low : plan.start ≤ℤ day
  pub high : day ≤ℤ plan.end
  pub few : k ≤ most_steps plan

room_by : (rule : Rule) (plan : Plan) (k : ℕ) (day : ℤ) → InOrder plan → (has_steps rule ≡ true → pos 1 ≤ℤ plan.tenor.count) → IsDayNumber (seed_by rule plan) → 1 ≤ k → led rule plan k ≡ Some day → is_inside rule plan day ≡ true → Room plan k day
room_by Backward plan k day terms tenor seed h led inside =
    let count = tenor refl in
    let c = unsigned_abs plan.tenor.count in
    let many = positive k c h (omega (arith, ints)) in
    let n : k * c ≡ suc (k * c - 1) = omega arith in
    let same : neg_ℤ (pos k *ℤ plan.tenor.count) ≡ neg_ℤ (pos (suc (k * c - 1))) = ap neg_ℤ (product k plan.tenor.count count ∙ ap pos n) in
    let there = ap (moved plan.eom plan.tenor.unit (seed_by Backward plan)) (sym same) ∙ led in
    let far = moved-far_back plan.eom plan.tenor.unit (seed_by Backward plan) day (k * c - 1) seed there in
    let back = rw (← n) at far in
    let low = within plan.first plan.start plan.start plan.end terms.first (omega (arith, signed_arith)) (omega (arith, signed_arith, terms.order)) in
    let high = within plan.last plan.end plan.start plan.end terms.last (omega (arith, signed_arith, terms.order)) (omega (arith, signed_arith)) in
    let past = after day (unwrap_or plan.first plan.start) inside in
    record {
      low = omega (arith, signed_arith, low.0, past);
      high = omega (arith, signed_arith, back, high.1);
      few = fits plan k count (omega (arith, ints, back, low.0, high.1, past));
    }
room_by Forward plan k day terms tenor seed h led inside =
    let count = tenor refl in
    let c = unsigned_abs plan.tenor.count in
    let many = positive k c h (omega (arith, ints)) in
    let n : k * c ≡ suc (k * c - 1) = omega arith in
    let same : pos k *ℤ plan.tenor.count ≡ pos (suc (k * c - 1)) = product k plan.tenor.count count ∙ ap pos n in
    let there = ap (moved plan.eom plan.tenor.unit (seed_by Forward plan)) (sym same) ∙ led in
    let far = moved-far_on plan.eom plan.tenor.unit (seed_by Forward plan) day (k * c - 1) seed there in
    let on = rw (← n) at far in
    let low = within plan.first plan.start plan.start plan.end terms.first (omega (arith, signed_arith)) (omega (arith, signed_arith, terms.order)) in
    let high = within plan.last plan.end plan.start plan.end terms.last (omega (arith, signed_arith, terms.order)) (omega (arith, signed_arith)) in
    let past = after (unwrap_or plan.last plan.end) day inside in
    record {
      low = omega (arith, signed_arith, on, low.0);
      high = omega (arith, signed_arith, past, high.1);
      few = fits plan k count (omega (arith, ints, on, low.0, high.1, past));
    }
room_by Zero plan k day terms tenor seed h led inside = absurd (cc)

pub step-room : (plan : Plan) (k : ℕ) (day : ℤ) → InOrder plan → IsDayNumber (seed_by plan.rule plan) → 1 ≤ k → step plan k ≡ Some day → Room plan k day
step-room plan k day terms seed h e =
    let is = step-is plan k day e in
    room_by plan.rule plan k day terms terms.tenor seed h is.0 is.1

-- the seed lies between start and end
seed-between : (rule : Rule) (plan : Plan) → InOrder plan → (plan.start ≤ℤ seed_by rule plan) × (seed_by rule plan ≤ℤ plan.end)
seed-between Backward plan terms =
    within plan.last plan.end plan.start plan.end terms.last (omega (arith, signed_arith, terms.order)) (omega (arith, signed_arith))
seed-between Forward plan terms =
    within plan.first plan.start plan.start plan.end terms.first (omega (arith, signed_arith)) (omega (arith, signed_arith, terms.order))
seed-between Zero plan terms = (omega (arith, signed_arith), omega (arith, signed_arith, terms.order))

pub seed-in_range : (plan : Plan) → InOrder plan → IsDayNumber plan.start → IsDayNumber plan.end → IsDayNumber (seed_by plan.rule plan)
seed-in_range plan terms start end =
    let between = seed-between plan.rule plan terms in
    (omega (arith, signed_arith, between.0, start.0), omega (arith, signed_arith, between.1, end.1))

record Inside (rule : Rule) (plan : Plan) (k : ℕ) : Type 0 where
  day : ℤ
  is : led rule plan k ≡ Some day
  inside : is_inside rule plan day ≡ true

before : (a b : ℤ) → b <ℤ a → not (le_z a b) ≡ true
before a b lt = ap not (le_z-false a b lt)

-- where a step is inside, so is the one before it
nearer_by : (rule : Rule) (plan : Plan) (k : ℕ) (day : ℤ) → (has_steps rule ≡ true → pos 1 ≤ℤ plan.tenor.count) → IsDayNumber (seed_by rule plan) → led rule plan (suc k) ≡ Some day → is_inside rule plan day ≡ true → Inside rule plan k
nearer_by Backward plan k day tenor seed led inside =
    let count = tenor refl in
    let near = product k plan.tenor.count count in
    let far = product (suc k) plan.tenor.count count in
    let c : 1 ≤ unsigned_abs plan.tenor.count = omega (arith, ints) in
    let found = moved-nearer_back plan.eom plan.tenor.unit (seed_by Backward plan) (neg_ℤ (pos k *ℤ plan.tenor.count)) (neg_ℤ (pos (suc k) *ℤ plan.tenor.count)) day seed (omega (arith, signed_arith, near)) (omega (arith, signed_arith, near, far)) led in
    let past = after day (unwrap_or plan.first plan.start) inside in
    record { day = found.day; is = found.is; inside = before found.day (unwrap_or plan.first plan.start) (omega (arith, signed_arith, past, found.before)) }
nearer_by Forward plan k day tenor seed led inside =
    let count = tenor refl in
    let near = product k plan.tenor.count count in
    let far = product (suc k) plan.tenor.count count in
    let c : 1 ≤ unsigned_abs plan.tenor.count = omega (arith, ints) in
    let found = moved-nearer_on plan.eom plan.tenor.unit (seed_by Forward plan) (pos k *ℤ plan.tenor.count) (pos (suc k) *ℤ plan.tenor.count) day seed (omega (arith, signed_arith, near)) (omega (arith, signed_arith, near, far)) led in
    let past = after (unwrap_or plan.last plan.end) day inside in
    record { day = found.day; is = found.is; inside = before (unwrap_or plan.last plan.end) found.day (omega (arith, signed_arith, past, found.before)) }
nearer_by Zero plan k day tenor seed led inside = absurd (cc)

step-end : (plan : Plan) (k : ℕ) → InOrder plan → IsDayNumber (seed_by plan.rule plan) → step plan k ≡ None → step plan (suc k) ≡ None
step-end plan k terms seed none =
    by_option (step plan (suc k)) (λ e. e)
    (λ day e.
    let is = step-is plan (suc k) day e in
    let near = nearer_by plan.rule plan k day terms.tenor seed is.0 is.1 in
    let some = step-of plan k near.day near.is near.inside in
    absurd (cc))

-- past the last step there is none
pub steps-end : (n : ℕ) (plan : Plan) (k : ℕ) → InOrder plan → IsDayNumber (seed_by plan.rule plan) → step plan k ≡ None → steps_from plan k n ≡ []
unfolding steps_from
steps-end zero plan k terms seed none = refl
steps-end (suc n) plan k terms seed none =
    rw none (steps-end n plan (suc k) terms seed (step-end plan k terms seed none))

pub steps-more : (plan : Plan) (k n : ℕ) (day : ℤ) → step plan k ≡ Some day → steps_from plan k (suc n) ≡ day ∷ steps_from plan (suc k) n
unfolding steps_from
steps-more plan k n day e = rw e refl
