-- The raw days are start, end, the stubs' days and the steps of any count of tenors.
use Rattle.std.proofs.Common.{◌≡◌, ℕ, zero, suc, ◌+◌, ◌<◌, ◌≤◌, true, ◌||◌, ◌⊎◌, inl, inr, List, [], ◌∷◌, ◌++◌, Option, Some, None, refl, sym, ap, ◌∙◌, arith, ℤ}
use Rattle.std.proofs.lemmas.Bool.{cases_order}
use Rattle.std.specs.List.{cons_option}
use Rattle.std.specs.Ordering.{int_eq}
use Rattle.day_number.specs.Day.{IsDayNumber}
use Rattle.schedule_rules.specs.declared.plans.Plan.{Plan}
use Rattle.schedule_rules.specs.Raw.{named_days, raw_days, IsRaw, RawDaysAreSteps}
use Rattle.schedule_rules.specs.Step.{seed_by, step, steps_from, most_steps}
use Rattle.schedule_rules.specs.Terms.{fault_of_terms}
use Rattle.schedule_rules.proofs.PlanLemmas.{in_order, step-room}
use Rattle.schedule_rules.proofs.RisingLemmas.{has, has-rising, has-append, rises-put, rises-none, or_cases, or_left, or_right, same_day, day_itself}

has-option : (o : Option ℤ) (days : List ℤ) (day : ℤ) → has (cons_option o days) day ≡ true → (o ≡ Some day) ⊎ (has days day ≡ true)
has-option None days day h = inr h
has-option (Some x) days day h =
    elim (or_cases (int_eq day x) (has days day) h) [
      | inl same ↦ inl (ap Some (sym (same_day day x same)))
      | inr later ↦ inr later
    ]

has-given : (o : Option ℤ) (days : List ℤ) (day : ℤ) → o ≡ Some day → has (cons_option o days) day ≡ true
has-given o days day e =
    ap (λ x. has (cons_option x days) day) e ∙ or_left (int_eq day day) (has days day) (day_itself day)

has-others : (o : Option ℤ) (days : List ℤ) (day : ℤ) → has days day ≡ true → has (cons_option o days) day ≡ true
has-others None days day h = h
has-others (Some x) days day h = or_right (int_eq day x) (has days day) h

record Step (plan : Plan) (from : ℕ) (day : ℤ) : Type 0 where
  k : ℕ
  low : from ≤ k
  is : step plan k ≡ Some day

listed_step : (n : ℕ) (plan : Plan) (k : ℕ) (day : ℤ) → has (steps_from plan k n) day ≡ true → Step plan k day
unfolding steps_from
listed_step zero plan k day h = absurd (cc)
listed_step (suc n) plan k day h =
    elim (has-option (step plan k) (steps_from plan (suc k) n) day h) [
      | inl is ↦ record { k = k; low = omega arith; is = is }
      | inr later ↦
          let rest = listed_step n plan (suc k) day later in
          record { k = rest.k; low = omega (arith, rest.low); is = rest.is }
    ]

step_listed : (n : ℕ) (plan : Plan) (k at : ℕ) (day : ℤ) → k ≤ at → at < k + n → step plan at ≡ Some day → has (steps_from plan k n) day ≡ true
unfolding steps_from
step_listed zero plan k at day low high is = absurd (omega arith)
step_listed (suc n) plan k at day low high is =
    elim (cases_order k at) [
      | inl same ↦ has-given (step plan k) (steps_from plan (suc k) n) day (ap (step plan) same ∙ is)
      | inr (inl lt) ↦ has-others (step plan k) (steps_from plan (suc k) n) day (step_listed n plan (suc k) at day (omega arith) (omega arith) is)
      | inr (inr gt) ↦ absurd (omega arith)
    ]

abbrev steps : Plan → List ℤ
steps plan = steps_from plan 1 (most_steps plan)

has-raw : (plan : Plan) (day : ℤ) → has (raw_days plan) day ≡ (has (named_days plan) day || has (steps plan) day)
unfolding raw_days
has-raw plan day =
    has-rising (named_days plan ++ steps plan) day ∙ has-append (named_days plan) (steps plan) day

named_raw : (plan : Plan) (day : ℤ) → has (named_days plan) day ≡ true → IsRaw plan day
named_raw plan day h =
    elim (or_cases (int_eq day plan.start) _ h) [
      | inl start ↦ inl (same_day day plan.start start)
      | inr more ↦ elim (or_cases (int_eq day plan.end) _ more) [
        | inl end ↦ inr (inl (same_day day plan.end end))
        | inr stubs ↦ elim (has-option plan.first (cons_option plan.last []) day stubs) [
          | inl first ↦ inr (inr (inl first))
          | inr later ↦ elim (has-option plan.last [] day later) [
            | inl last ↦ inr (inr (inr (inl last)))
            | inr none ↦ absurd (cc)
          ]
        ]
      ]
    ]

listed_raw : (plan : Plan) (day : ℤ) → has (raw_days plan) day ≡ true → IsRaw plan day
listed_raw plan day h =
    elim (or_cases (has (named_days plan) day) (has (steps plan) day) (sym (has-raw plan day) ∙ h)) [
      | inl named ↦ named_raw plan day named
      | inr stepped ↦
          let is = listed_step (most_steps plan) plan 1 day stepped in
          inr (inr (inr (inr (is.k, is.low, is.is))))
    ]

abbrev stubs : Plan → List ℤ
stubs plan = cons_option plan.first (cons_option plan.last [])

named_listed : (plan : Plan) (day : ℤ) → has (named_days plan) day ≡ true → has (raw_days plan) day ≡ true
named_listed plan day h =
    has-raw plan day ∙ or_left (has (named_days plan) day) (has (steps plan) day) h

start_named : (plan : Plan) (day : ℤ) → day ≡ plan.start → has (named_days plan) day ≡ true
start_named plan day e =
    or_left (int_eq day plan.start) (has (plan.end ∷ stubs plan) day) (ap (int_eq day) (sym e) ∙ day_itself day)

end_named : (plan : Plan) (day : ℤ) → day ≡ plan.end → has (named_days plan) day ≡ true
end_named plan day e =
    or_right (int_eq day plan.start) (has (plan.end ∷ stubs plan) day)
    (or_left (int_eq day plan.end) (has (stubs plan) day) (ap (int_eq day) (sym e) ∙ day_itself day))

stub_named : (plan : Plan) (day : ℤ) → has (stubs plan) day ≡ true → has (named_days plan) day ≡ true
stub_named plan day h =
    or_right (int_eq day plan.start) (has (plan.end ∷ stubs plan) day)
    (or_right (int_eq day plan.end) (has (stubs plan) day) h)

pub start_listed : (plan : Plan) → has (raw_days plan) plan.start ≡ true
start_listed plan = named_listed plan plan.start (start_named plan plan.start refl)

pub end_listed : (plan : Plan) → has (raw_days plan) plan.end ≡ true
end_listed plan = named_listed plan plan.end (end_named plan plan.end refl)

raw_listed : (plan : Plan) (day : ℤ) → IsDayNumber (seed_by plan.rule plan) → fault_of_terms plan ≡ None → IsRaw plan day → has (raw_days plan) day ≡ true
raw_listed plan day seed terms (inl start) = named_listed plan day (start_named plan day start)
raw_listed plan day seed terms (inr (inl end)) = named_listed plan day (end_named plan day end)
raw_listed plan day seed terms (inr (inr (inl first))) =
    named_listed plan day (stub_named plan day (has-given plan.first (cons_option plan.last []) day first))
raw_listed plan day seed terms (inr (inr (inr (inl last)))) =
    named_listed plan day (stub_named plan day (has-others plan.first (cons_option plan.last []) day (has-given plan.last [] day last)))
raw_listed plan day seed terms (inr (inr (inr (inr is)))) =
    let room = (step-room plan is.0 day (in_order plan terms) seed is.1 is.2).few in
    has-raw plan day
    ∙ or_right (has (named_days plan) day) (has (steps plan) day) (step_listed (most_steps plan) plan 1 is.0 day is.1 (omega arith) is.2)

pub raw_days_are_steps : RawDaysAreSteps
unfolding raw_days
raw_days_are_steps plan seed terms = (
  rises-put (named_days plan ++ steps plan) [] rises-none,
  λ day. (listed_raw plan day, raw_listed plan day seed terms),
)
