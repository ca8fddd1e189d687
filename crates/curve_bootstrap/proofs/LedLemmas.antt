-- Lemmas on the days that the tenors of helpers lead to.
use Rattle.std.proofs.Common.{◌≡◌, ℕ, ◌+◌, ◌<◌, ◌≤◌, arith, refl, ap, subst, ◌∙◌, ℤ, List, [], ◌∷◌, length, get_or, Option, Some, None, Result, Ok, Err, IfNone, IsSome}
use Rattle.holiday_calendars.specs.declared.calendars.Calendar.{Calendar}
use Rattle.curve_terms.specs.declared.terms.Helper.{Helper}
use Rattle.curve_bootstrap.specs.declared.faults.HelperFault.{HelperFault}
use Rattle.curve_bootstrap.specs.declared.faults.HelperFault.TheVariants.{DateRange}
use Rattle.curve_bootstrap.specs.declared.faults.BuildFault.{BuildFault}
use Rattle.curve_bootstrap.specs.declared.faults.BuildFault.TheVariants as build
use Rattle.curve_bootstrap.specs.Built.{led_to, first_led, numbered}

first_is : (first helper : Helper) (helpers : List Helper) (at : ℕ) → helper ≡ get_or (first ∷ helpers) at helper → at ≡ 0 → helper ≡ first
first_is first helper helpers at is none = subst (λ (n : ℕ). helper ≡ get_or (first ∷ helpers) n helper) none is

-- with a node for a helper the first is led to a day
pub led_on : (X P : Type 0) (calendar : Calendar) (reference : ℤ) (helpers : List Helper) (at : ℕ) (helper : Helper) (found : X) → at < length helpers → helper ≡ get_or helpers at helper
    → IfNone (first_led calendar reference helpers) (at ≡ 0) → IfNone (led_to calendar reference helper) (◌≡◌ {A = Result X HelperFault} (Ok found) (Err DateRange)) → IfNone (first_led calendar reference helpers) P
led_on X P calendar reference [] at helper found h is led away = absurd (omega arith)
led_on X P calendar reference (first ∷ helpers) at helper found h is led away = by_day (led_to calendar reference first) refl led where
  by_day : (o : Option ℤ) → led_to calendar reference first ≡ o → IfNone o (at ≡ 0) → IfNone o P
  by_day (Some day) e none = tt
  by_day None e none = absurd (
      let own = subst (λ (h : Helper). IfNone (led_to calendar reference h) (◌≡◌ {A = Result X HelperFault} (Ok found) (Err DateRange))) (first_is first helper helpers at is none) away in
      let no : ◌≡◌ {A = Result X HelperFault} (Ok found) (Err DateRange) = rw e at own in cc)

-- the fault of a helper is that of the first where that is led to no day
pub led_fault : (X Y : Type 0) (calendar : Calendar) (reference : ℤ) (helpers : List Helper) (at : ℕ) (helper : Helper) (fault : HelperFault) (found : BuildFault) → at < length helpers → helper ≡ get_or helpers at helper
    → IfNone (first_led calendar reference helpers) (at ≡ 0) → IfNone (led_to calendar reference helper) (◌≡◌ {A = Result X HelperFault} (Err fault) (Err DateRange)) → found ≡ numbered (at + 1) fault
    → IfNone (first_led calendar reference helpers) (◌≡◌ {A = Result Y BuildFault} (Err found) (Err build.DateRange))
led_fault X Y calendar reference [] at helper fault found h is led away numbered_so = absurd (omega arith)
led_fault X Y calendar reference (first ∷ helpers) at helper fault found h is led away numbered_so = by_day (led_to calendar reference first) refl led where
  by_day : (o : Option ℤ) → led_to calendar reference first ≡ o → IfNone o (at ≡ 0) → IfNone o (◌≡◌ {A = Result Y BuildFault} (Err found) (Err build.DateRange))
  by_day (Some day) e none = tt
  by_day None e none =
      let own = subst (λ (h : Helper). IfNone (led_to calendar reference h) (◌≡◌ {A = Result X HelperFault} (Err fault) (Err DateRange))) (first_is first helper helpers at is none) away in
      let no : ◌≡◌ {A = Result X HelperFault} (Err fault) (Err DateRange) = rw e at own in
      let same : fault ≡ DateRange = cc in
      ap (λ (f : BuildFault). Err f) (numbered_so ∙ ap (numbered (at + 1)) same)

-- with all helpers behind, the first is led to a day
pub led_all : (P : Type 0) (calendar : Calendar) (reference : ℤ) (helpers : List Helper) (at : ℕ) → length helpers ≤ at
    → IfNone (first_led calendar reference helpers) (at ≡ 0) → IfNone (first_led calendar reference helpers) P
led_all P calendar reference [] at h led = tt
led_all P calendar reference (first ∷ helpers) at h led = by_day (led_to calendar reference first) led where
  by_day : (o : Option ℤ) → IfNone o (at ≡ 0) → IfNone o P
  by_day (Some day) none = tt
  by_day None none = absurd (omega arith)

-- a day that is there
pub led_there : (o : Option ℤ) (P : Type 0) → IsSome o → IfNone o P
led_there (Some day) P there = tt
led_there None P there = absurd cc

-- what is given shows that a day is there
pub led_if : (X : Type 0) (o : Option ℤ) (x : X) (fault : HelperFault) → IfNone o (◌≡◌ {A = Result X HelperFault} (Ok x) (Err fault)) → IsSome o
led_if X (Some day) x fault led = refl
led_if X None x fault led = absurd cc
