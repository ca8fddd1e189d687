-- A schedule is the adjusted end and the adjusted days before it.
use Rattle.std.proofs.Common.{◌≡◌, Bool, true, false, not, ◌⊎◌, inl, inr, List, [], ◌∷◌, if◌then◌else◌, Option, Some, None, Result, Ok, Err, refl, sym, ap, ◌∙◌, ℤ, ◌<ℤ◌}
use Rattle.std.specs.Int.Signed.{le_z}
use Rattle.std.specs.List.{filter}
use Rattle.std.specs.Ordering.{int_eq}
use Rattle.day_number.specs.Day.{IsDayNumber}
use Rattle.day_shift.proofs.SetLemmas.{by_test}
use Rattle.day_shift.proofs.SearchLemmas.{le_z-false}
use Rattle.schedule_rules.specs.declared.plans.Plan.{Plan}
use Rattle.schedule_rules.specs.declared.faults.PlanFault.{PlanFault}
use Rattle.schedule_rules.specs.declared.faults.PlanFault.TheVariants.{Collapsed}
use Rattle.schedule_rules.specs.Raw.{rising, raw_days, raw_or_fault}
use Rattle.schedule_rules.specs.Schedule.{adjusted_raw, day_and, each_of, rising_or_fault, adjusted_or_fault, ended, ended_or_fault, on_ok, dated, unless, schedule, IsAdjusted, SchedulesAreAdjustedDays}
use Rattle.schedule_rules.specs.Step.{seed_by}
use Rattle.schedule_rules.specs.Terms.{fault_of_terms}
use Rattle.schedule_rules.proofs.PlanLemmas.{after}
use Rattle.schedule_rules.proofs.RawLaw.{raw_days_are_steps}
use Rattle.schedule_rules.proofs.RawLemmas.{few-is}
use Rattle.schedule_rules.proofs.RisingLemmas.{has, has-rising, has-append, has-adjusted, rises-each, rises-ended, or_cases, or_left, or_right, same_day, day_itself}

abbrev pub Days : Type 0
Days = Result (List ℤ) PlanFault

-- what is behind days that are there
pub record Behind (first : Days) (next : List ℤ → Days) (dates : List ℤ) : Type 0 where
  pub days : List ℤ
  pub is : first ≡ Ok days
  pub then_is : next days ≡ Ok dates

pub behind : (first : Days) (next : List ℤ → Days) (dates : List ℤ) → on_ok first next ≡ Ok dates → Behind first next dates
behind (Ok days) next dates e = record { days = days; is = refl; then_is = e }
behind (Err fault) next dates e = absurd (cc)

pub record InTerms (o : Option PlanFault) (rest : Days) (dates : List ℤ) : Type 0 where
  pub none : o ≡ None
  pub is : rest ≡ Ok dates

pub in_terms : (o : Option PlanFault) (rest : Days) (dates : List ℤ) → unless o rest ≡ Ok dates → InTerms o rest dates
in_terms (Some fault) rest dates e = absurd (cc)
in_terms None rest dates e = record { none = refl; is = e }

-- the raw day that an adjusted day comes from
record From (makes : ℤ → Option ℤ) (raw : List ℤ) (day : ℤ) : Type 0 where
  from : ℤ
  listed : has raw from ≡ true
  is : makes from ≡ Some day

from-both : (makes : ℤ → Option ℤ) (x : ℤ) (raw : List ℤ) (o : Option ℤ) (rest : Option (List ℤ)) (days : List ℤ) (day : ℤ) → makes x ≡ o → day_and o rest ≡ Some days → has days day ≡ true → ((more : List ℤ) → rest ≡ Some more → has more day ≡ true → From makes raw day) → From makes (x ∷ raw) day
from-both makes x raw None rest days day is e h later = absurd (cc)
from-both makes x raw (Some y) None days day is e h later = absurd (cc)
from-both makes x raw (Some y) (Some more) days day is e h later =
    let same : y ∷ more ≡ days = cc in
    elim (or_cases (int_eq day y) (has more day) (ap (λ ds. has ds day) same ∙ h)) [
      | inl own ↦ record { from = x; listed = or_left (int_eq x x) (has raw x) (day_itself x); is = is ∙ ap Some (sym (same_day day y own)) }
      | inr rest ↦
          let deep = later more refl rest in
          record { from = deep.from; listed = or_right (int_eq deep.from x) (has raw deep.from) deep.listed; is = deep.is }
    ]

from-each : (makes : ℤ → Option ℤ) (raw days : List ℤ) (day : ℤ) → each_of makes raw ≡ Some days → has days day ≡ true → From makes raw day
unfolding each_of
from-each makes [] days day e h = let none : [] ≡ days = cc in let no = ap (λ ds. has ds day) none in absurd (cc)
from-each makes (x ∷ raw) days day e h =
    from-both makes x raw (makes x) (each_of makes raw) days day refl e h (λ more rest later. from-each makes raw more day rest later)

from-rising : (makes : ℤ → Option ℤ) (raw : List ℤ) (o : Option (List ℤ)) (days : List ℤ) (day : ℤ) → each_of makes raw ≡ o → rising_or_fault o ≡ Ok days → has days day ≡ true → From makes raw day
from-rising makes raw None days day is e h = absurd (cc)
from-rising makes raw (Some more) days day is e h =
    let same : rising more ≡ days = cc in
    from-each makes raw more day is (sym (has-rising more day) ∙ ap (λ ds. has ds day) same ∙ h)

abbrev is_before : ℤ → ℤ → Bool
is_before end day = not (le_z end day)

kept-has : (end : ℤ) (days : List ℤ) (day : ℤ) → has (filter (is_before end) days) day ≡ true → (has days day ≡ true) × (is_before end day ≡ true)
kept-has end [] day h = absurd (cc)
kept-has end (x ∷ xs) day h =
    by_test (is_before end x)
    (λ holds. elim (or_cases (int_eq day x) (has (filter (is_before end) xs) day) (rw holds at h)) [
      | inl same ↦ (or_left (int_eq day x) (has xs day) same, ap (is_before end) (same_day day x same) ∙ holds)
      | inr later ↦ let rest = kept-has end xs day later in (or_right (int_eq day x) (has xs day) rest.0, rest.1)
    ])
    (λ fails. let rest = kept-has end xs day (rw fails at h) in (or_right (int_eq day x) (has xs day) rest.0, rest.1))

has-kept : (end : ℤ) (days : List ℤ) (day : ℤ) → has days day ≡ true → is_before end day ≡ true → has (filter (is_before end) days) day ≡ true
has-kept end [] day h before = absurd (cc)
has-kept end (x ∷ xs) day h before =
    elim (or_cases (int_eq day x) (has xs day) h) [
      | inl same ↦
          let own : is_before end x ≡ true = ap (is_before end) (sym (same_day day x same)) ∙ before in
          rw own (or_left (int_eq day x) (has (filter (is_before end) xs) day) same)
      | inr later ↦ by_test (is_before end x)
          (λ holds. rw holds (or_right (int_eq day x) (has (filter (is_before end) xs) day) (has-kept end xs day later before)))
          (λ fails. rw fails (has-kept end xs day later before))
    ]

ended-by : (b : Bool) (days : List ℤ) (dates : List ℤ) → ◌≡◌ {A = Days} (if b then Err Collapsed else Ok days) (Ok dates) → days ≡ dates
ended-by true days dates e = absurd (cc)
ended-by false days dates e = cc

pub ended-is : (days : List ℤ) (start : Option ℤ) (end : ℤ) (dates : List ℤ) → ended_or_fault days start (Some end) ≡ Ok dates → ended end days ≡ dates
ended-is days None end dates e = absurd (cc)
ended-is days (Some start) end dates e = ended-by (le_z end start) (ended end days) dates e

module _ (business : ℤ → Bool) (plan : Plan) (raw days : List ℤ) (end : ℤ) (seed : IsDayNumber (seed_by plan.rule plan)) (terms : fault_of_terms plan ≡ None) (raw_is : raw_days plan ≡ raw) (days_are : adjusted_or_fault business plan raw ≡ Ok days) where
  listed : (day : ℤ) → has (ended end days) day ≡ true → (day ≡ end) ⊎ ((day <ℤ end) × IsAdjusted business plan day)
  listed day h =
      elim (or_cases (has (filter (is_before end) days) day) (has (end ∷ []) day) (sym (has-append (filter (is_before end) days) (end ∷ []) day) ∙ h)) [
        | inl kept ↦
            let own = kept-has end days day kept in
            let comes = from-rising (adjusted_raw business plan) raw (each_of (adjusted_raw business plan) raw) days day refl days_are own.0 in
            let is_raw = ((raw_days_are_steps plan seed terms).1 comes.from).0 (ap (λ ds. has ds comes.from) raw_is ∙ comes.listed) in
            inr (after end day own.1, (comes.from, is_raw, comes.is))
        | inr last ↦ elim (or_cases (int_eq day end) false last) [
          | inl same ↦ inl (same_day day end same)
          | inr none ↦ absurd (cc)
        ]
      ]

  adjusted_listed : (day : ℤ) → (day ≡ end) ⊎ ((day <ℤ end) × IsAdjusted business plan day) → has (ended end days) day ≡ true
  adjusted_listed day (inl last) =
      has-append (filter (is_before end) days) (end ∷ []) day
      ∙ or_right (has (filter (is_before end) days) day) (has (end ∷ []) day) (or_left (int_eq day end) false (ap (int_eq day) (sym last) ∙ day_itself day))
  adjusted_listed day (inr is) =
      let in_raw = ap (λ ds. has ds is.1.0) (sym raw_is) ∙ ((raw_days_are_steps plan seed terms).1 is.1.0).1 is.1.1 in
      let own = has-adjusted (adjusted_raw business plan) raw days is.1.0 day days_are in_raw is.1.2 in
      has-append (filter (is_before end) days) (end ∷ []) day
      ∙ or_left (has (filter (is_before end) days) day) (has (end ∷ []) day) (has-kept end days day own (ap not (le_z-false end day is.0)))

pub schedules_are_adjusted_days : SchedulesAreAdjustedDays
unfolding schedule
schedules_are_adjusted_days business plan dates end seed e end_is =
    let terms = in_terms (fault_of_terms plan) (dated business plan) dates e in
    let makes = adjusted_raw business plan in
    let first = behind (raw_or_fault plan) (λ raw. on_ok (adjusted_or_fault business plan raw) (λ days. ended_or_fault days (makes plan.start) (makes plan.end))) dates terms.is in
    let second = behind (adjusted_or_fault business plan first.days) (λ days. ended_or_fault days (makes plan.start) (makes plan.end)) dates first.then_is in
    let raw_is = few-is (raw_days plan) first.days first.is in
    let own = ap (ended_or_fault second.days (makes plan.start)) (sym end_is) ∙ second.then_is in
    let is = ended-is second.days (makes plan.start) end dates own in (
      rw (← is) (rises-ended second.days end (rises-each (each_of makes first.days) second.days second.is)),
      λ day. (
        λ h. listed business plan first.days second.days end seed terms.none raw_is second.is day (ap (λ ds. has ds day) is ∙ h),
        λ h. ap (λ ds. has ds day) (sym is) ∙ adjusted_listed business plan first.days second.days end seed terms.none raw_is second.is day h,
      ),
    )
