-- Days moved by units: how far, and in the order of the counts.
use Rattle.std.proofs.Common.{◌≡◌, ℕ, suc, ◌+◌, ◌-◌, ◌*◌, ◌≤◌, min, ◌⊎◌, inl, inr, Bool, true, false, ◌&&◌, if◌then◌else◌, Option, Some, None, refl, sym, ap, ◌∙◌, arith, ℤ, pos, neg_ℤ, ◌+ℤ◌, ◌-ℤ◌, ◌<ℤ◌, ◌≤ℤ◌, ◌*ℤ◌, unsigned_abs}
use Rattle.std.proofs.lemmas.Int.{ints, by_lt_z}
use Rattle.std.proofs.lemmas.Bool.{cases_order}
use Rattle.std.specs.Int.{IsInRange}
use Rattle.std.specs.Int.Signed.{le_z}
use Rattle.jiff_core.specs.Calendar.{IsBetween, days_from_civil, days_in_month}
use Rattle.jiff_core.proofs.SignedLemmas.{signed_arith, int_div_euclid-parts, int_rem_euclid-parts}
use Rattle.day_number.specs.declared.tenors.Unit.{Unit as TimeUnit}
use Rattle.day_number.specs.declared.tenors.Unit.TheVariants.{Days, Weeks, Months, Years}
use Rattle.day_number.specs.Day.{IsDayNumber, IsCivil, CivilDate, civil_number, date_of}
use Rattle.day_number.specs.Shift.{month_number, months_later, last_of_month}
use Rattle.day_number.proofs.DayLemmas.{date_of-is, date_of-civil_number}
use Rattle.day_shift.specs.Business.{day_at}
use Rattle.day_shift.specs.Month.{month_at}
use Rattle.day_shift.proofs.SearchLemmas.{le_z-true, day_at-in, day_at-found}
use Rattle.schedule_rules.specs.Step.{at_month_end, is_month_end, moved, least_days}
use Rattle.schedule_rules.proofs.MonthLemmas.{year_of, month_of, first_of, length_of, lengths, placed, gap, gap_most}
use Rattle.schedule_rules.proofs.StepLemmas.{later_year, month_at-out}

-- the month of a seed, counted from January of the year 0
abbrev index : ℤ → ℤ
index seed = month_number (date_of seed)

-- the place of a seed in its month
record Own (seed : ℤ) : Type 0 where
  years : IsBetween (pos 1901) (pos 2199) (year_of (index seed))
  within : IsInRange 1 (length_of (index seed)) (date_of seed).day
  is : seed +ℤ pos 1 ≡ first_of (index seed) +ℤ pos (date_of seed).day

own : (seed : ℤ) → IsDayNumber seed → Own seed
unfolding civil_number
own seed h =
    let date = date_of seed in
    let of = date_of-is seed h in
    let m = index seed in
    let div = int_div_euclid-parts m 12 (omega arith) in
    let rem = int_rem_euclid-parts m 12 (omega arith) in
    let low = of.0.1.0 in
    let high = of.0.1.1 in
    let year : year_of m ≡ date.year = omega (arith, signed_arith) in
    let month : month_of m ≡ date.month = omega (arith, signed_arith) in
    let long : length_of m ≡ days_in_month date.year date.month = ap (λ y. days_in_month y (month_of m)) year ∙ ap (λ k. days_in_month date.year k) month in
    let same : days_from_civil (year_of m) (month_of m) date.day ≡ days_from_civil date.year date.month date.day = ap (λ y. days_from_civil y (month_of m) date.day) year ∙ ap (λ k. days_from_civil date.year k date.day) month in
    let first = of.0.2.0 in
    record {
      years = (omega (arith, signed_arith, of.0.0.0, year), omega (arith, signed_arith, of.0.0.1, year));
      within = (first, omega (arith, of.0.2.1, long));
      is = ap (λ z. z +ℤ pos 1) (sym (same ∙ of.1)) ∙ placed m date.day first;
    }

-- the month that a day is in, and its place there, a count of months from a seed
record InMonth (seed z day : ℤ) : Type 0 where
  years : IsBetween (pos 1901) (pos 2199) (year_of (index seed +ℤ z))
  place : ℕ
  within : IsInRange 1 (length_of (index seed +ℤ z)) place
  is : day +ℤ pos 1 ≡ first_of (index seed +ℤ z) +ℤ pos place
  kept : (place ≡ (date_of seed).day) ⊎ ((place ≡ length_of (index seed +ℤ z)) × (28 ≤ (date_of seed).day))

month_at-in : (day n : ℤ) → IsBetween (pos 1901) (pos 2199) (later_year day n) → month_at day n ≡ Some (months_later day n)
month_at-in day n h =
    ap (λ b. if b && le_z (later_year day n) (pos 2199) then Some (months_later day n) else None) (le_z-true (pos 1901) (later_year day n) h.0)
    ∙ ap (λ b. if b then Some (months_later day n) else None) (le_z-true (later_year day n) (pos 2199) h.1)

month_at-found : (day n found : ℤ) → month_at day n ≡ Some found → IsBetween (pos 1901) (pos 2199) (later_year day n) × (found ≡ months_later day n)
month_at-found day n found e =
    by_lt_z (later_year day n) (pos 1901)
    (λ lt. let out = month_at-out day n (inl lt) in absurd (cc))
    (λ ge. by_lt_z (pos 2199) (later_year day n)
    (λ lt. let out = month_at-out day n (inr lt) in absurd (cc))
    (λ le. let is = month_at-in day n (ge, le) in ((ge, le), cc)))

-- the last day of a month
last_in : (m : ℤ) (day : ℕ) → IsBetween (pos 1901) (pos 2199) (year_of m) → IsInRange 1 (length_of m) day → last_of_month (days_from_civil (year_of m) (month_of m) day) +ℤ pos 1 ≡ first_of m +ℤ pos (length_of m)
unfolding last_of_month civil_number
last_in m day years within =
    let rem = int_rem_euclid-parts m 12 (omega arith) in
    let civil : IsCivil (year_of m) (month_of m) day = (years, (omega arith, omega (arith, signed_arith)), within) in
    let date = date_of-civil_number (year_of m) (month_of m) day civil in
    let long = lengths m in
    ap (λ (d : CivilDate). days_from_civil d.year d.month (days_in_month d.year d.month) +ℤ pos 1) date
    ∙ placed m (length_of m) (omega arith)

clipped : (m : ℤ) (day place : ℕ) → place ≡ min day (length_of m) → (place ≡ day) ⊎ ((place ≡ length_of m) × (28 ≤ day))
clipped m day place e =
    let long = lengths m in
    elim (cases_order day (length_of m)) [
      | inl same ↦ inl (omega arith)
      | inr (inl lt) ↦ inl (omega arith)
      | inr (inr gt) ↦ inr (omega arith, omega arith)
    ]

-- months lead into a month
later_in : (seed z : ℤ) → IsDayNumber seed → IsBetween (pos 1901) (pos 2199) (later_year seed z) → InMonth seed z (months_later seed z)
unfolding months_later civil_number
later_in seed z h years =
    let m = index seed +ℤ z in
    let place = min (date_of seed).day (length_of m) in
    let here = own seed h in
    let first = here.within.0 in
    let long = lengths m in
    let low : 1 ≤ place = omega arith in
    record {
      years = years;
      place = place;
      within = (low, omega arith);
      is = placed m place low;
      kept = clipped m (date_of seed).day place refl;
    }

-- and so they do where month ends are kept
end_in : (seed z day : ℤ) → IsDayNumber seed → seed ≡ last_of_month seed → InMonth seed z day → InMonth seed z (last_of_month day)
unfolding civil_number
end_in seed z day h end there =
    let m = index seed +ℤ z in
    let here = own seed h in
    let long = lengths m in
    let own_long = lengths (index seed) in
    let at : days_from_civil (year_of m) (month_of m) there.place ≡ day = omega (arith, signed_arith, there.is, placed m there.place there.within.0) in
    let own_at : days_from_civil (year_of (index seed)) (month_of (index seed)) (date_of seed).day ≡ seed = omega (arith, signed_arith, here.is, placed (index seed) (date_of seed).day here.within.0) in
    let last = ap (λ d. last_of_month d +ℤ pos 1) (sym at) ∙ last_in m there.place there.years there.within in
    let own_last = ap (λ d. last_of_month d +ℤ pos 1) (sym own_at) ∙ last_in (index seed) (date_of seed).day here.years here.within in
    let whole : (date_of seed).day ≡ length_of (index seed) = omega (arith, signed_arith, own_last, end, here.is) in
    record {
      years = there.years;
      place = length_of m;
      within = (omega arith, omega arith);
      is = last;
      kept = inr (refl, omega arith);
    }

by_option : {P : Type 0} (o : Option ℤ) → (o ≡ None → P) → ((x : ℤ) → o ≡ Some x → P) → P
by_option None none some = none refl
by_option (Some x) none some = some x refl

-- a seed at its month's end where month ends are kept
abbrev Keeps : Bool → ℤ → Type 0
Keeps keeps seed = keeps ≡ true → seed ≡ last_of_month seed

-- where months lead, they lead into the month
month_in : (keeps : Bool) (seed z day : ℤ) → IsDayNumber seed → Keeps keeps seed → at_month_end keeps (month_at seed z) ≡ Some day → InMonth seed z day
month_in false seed z day h end e =
    let found = month_at-found seed z day e in
    rw found.1 (later_in seed z h found.0)
month_in true seed z day h end e =
    by_option (month_at seed z)
    (λ none. let no = ap (at_month_end true) none in absurd (cc))
    (λ x some.
    let found = month_at-found seed z x some in
    let into = later_in seed z h found.0 in
    let last : last_of_month (months_later seed z) ≡ day = let it = ap (at_month_end true) some in let e₂ = found.1 in let e₃ = ap last_of_month found.1 in cc in
    rw (← last) (end_in seed z (months_later seed z) h (end refl) into))

record Found (o : Option ℤ) : Type 0 where
  pub day : ℤ
  pub is : o ≡ Some day

-- where the year is in range, they lead somewhere
month_found : (keeps : Bool) (seed z : ℤ) → IsBetween (pos 1901) (pos 2199) (later_year seed z) → Found (at_month_end keeps (month_at seed z))
month_found false seed z years = record { day = months_later seed z; is = month_at-in seed z years }
month_found true seed z years =
    record { day = last_of_month (months_later seed z); is = ap (at_month_end true) (month_at-in seed z years) }

-- fewer months lead to an earlier day
month_order : (seed low high before after : ℤ) → InMonth seed low before → InMonth seed high after → low <ℤ high → before <ℤ after
month_order seed low high before after a b lt =
    let m = index seed +ℤ low in
    let n = unsigned_abs (high -ℤ low) - 1 in
    let div = int_div_euclid-parts m 12 (omega arith) in
    let year = a.years.0 in
    let later : index seed +ℤ high ≡ m +ℤ pos (n + 1) = omega (arith, ints) in
    let between = gap n m (index seed +ℤ high) (omega (arith, signed_arith)) later in
    omega (arith, signed_arith, between, a.is, b.is, a.within.1, b.within.0)

-- and each month is 28 days at least
month_on : (seed day : ℤ) (n : ℕ) → IsDayNumber seed → InMonth seed (pos (suc n)) day → (seed +ℤ pos (suc n * 28)) ≤ℤ day
month_on seed day n h there =
    let here = own seed h in
    let m = index seed in
    let div = int_div_euclid-parts m 12 (omega arith) in
    let year = here.years.0 in
    let between = gap n m (m +ℤ pos (suc n)) (omega (arith, signed_arith)) (omega (arith, signed_arith)) in
    let long = lengths m in
    let there_long = lengths (m +ℤ pos (suc n)) in
    elim there.kept [
      | inl e ↦ omega (arith, signed_arith, between, there.is, here.is, e, long.0)
      | inr e ↦ omega (arith, signed_arith, between, there.is, here.is, e.0, there_long.0, here.within.1)
    ]

month_back : (seed day : ℤ) (n : ℕ) → IsDayNumber seed → InMonth seed (neg_ℤ (pos (suc n))) day → (day +ℤ pos (suc n * 28)) ≤ℤ seed
month_back seed day n h there =
    let here = own seed h in
    let m = index seed +ℤ neg_ℤ (pos (suc n)) in
    let div = int_div_euclid-parts m 12 (omega arith) in
    let year = there.years.0 in
    let between = gap n m (index seed) (omega (arith, signed_arith)) (omega (arith, signed_arith)) in
    let long = lengths m in
    elim there.kept [
      | inl e ↦ omega (arith, signed_arith, between, there.is, here.is, e, long.0)
      | inr e ↦ omega (arith, signed_arith, between, there.is, here.is, e.0, e.1)
    ]

-- where a farther count leads, a nearer one leads to a day between
pub record Nearer (o : Option ℤ) (Before : ℤ → Type 0) : Type 0 where
  pub day : ℤ
  pub is : o ≡ Some day
  pub before : Before day

months_nearer_on : (keeps : Bool) (seed near far day : ℤ) → IsDayNumber seed → Keeps keeps seed → pos 0 ≤ℤ near → near <ℤ far → at_month_end keeps (month_at seed far) ≡ Some day → Nearer (at_month_end keeps (month_at seed near)) (λ x. x <ℤ day)
months_nearer_on keeps seed near far day h end low lt e =
    let here = own seed h in
    let there = month_in keeps seed far day h end e in
    let div = int_div_euclid-parts (index seed) 12 (omega arith) in
    let near_div = int_div_euclid-parts (index seed +ℤ near) 12 (omega arith) in
    let far_div = int_div_euclid-parts (index seed +ℤ far) 12 (omega arith) in
    let years : IsBetween (pos 1901) (pos 2199) (later_year seed near) = (omega (arith, signed_arith, here.years.0), omega (arith, signed_arith, there.years.1)) in
    let found = month_found keeps seed near years in
    let into = month_in keeps seed near found.day h end found.is in
    record { day = found.day; is = found.is; before = month_order seed near far found.day day into there lt }

months_nearer_back : (keeps : Bool) (seed near far day : ℤ) → IsDayNumber seed → Keeps keeps seed → near ≤ℤ pos 0 → far <ℤ near → at_month_end keeps (month_at seed far) ≡ Some day → Nearer (at_month_end keeps (month_at seed near)) (λ x. day <ℤ x)
months_nearer_back keeps seed near far day h end high lt e =
    let here = own seed h in
    let there = month_in keeps seed far day h end e in
    let div = int_div_euclid-parts (index seed) 12 (omega arith) in
    let near_div = int_div_euclid-parts (index seed +ℤ near) 12 (omega arith) in
    let far_div = int_div_euclid-parts (index seed +ℤ far) 12 (omega arith) in
    let years : IsBetween (pos 1901) (pos 2199) (later_year seed near) = (omega (arith, signed_arith, there.years.0), omega (arith, signed_arith, here.years.1)) in
    let found = month_found keeps seed near years in
    let into = month_in keeps seed near found.day h end found.is in
    record { day = found.day; is = found.is; before = month_order seed far near day found.day there into lt }

-- days and weeks keep no month ends
days_alone : (keeps x : Bool) (o : Option ℤ) → at_month_end (keeps && false && x) o ≡ o
days_alone true x o = refl
days_alone false x o = refl

-- month ends are kept from a month's end
keeps_end : (keeps : Bool) (seed : ℤ) → Keeps (keeps && true && is_month_end seed) seed
keeps_end true seed e = grind (arith, ints)
keeps_end false seed e = absurd (cc)

pub moved-nearer_on : (keeps : Bool) (unit : TimeUnit) (seed near far day : ℤ) → IsDayNumber seed → pos 0 ≤ℤ near → near <ℤ far → moved keeps unit seed far ≡ Some day → Nearer (moved keeps unit seed near) (λ x. x <ℤ day)
moved-nearer_on keeps Days seed near far day h low lt e =
    let alone = days_alone keeps (is_month_end seed) in
    let found = day_at-found (seed +ℤ far) day (sym (alone (day_at (seed +ℤ far))) ∙ e) in
    record {
      day = seed +ℤ near;
      is = alone (day_at (seed +ℤ near)) ∙ day_at-in (seed +ℤ near) (omega (arith, signed_arith, found.0.0, found.0.1, found.1), omega (arith, signed_arith, found.0.0, found.0.1, found.1));
      before = omega (arith, signed_arith, found.1);
    }
moved-nearer_on keeps Weeks seed near far day h low lt e =
    let alone = days_alone keeps (is_month_end seed) in
    let found = day_at-found (seed +ℤ far *ℤ pos 7) day (sym (alone (day_at (seed +ℤ far *ℤ pos 7))) ∙ e) in
    record {
      day = seed +ℤ near *ℤ pos 7;
      is = alone (day_at (seed +ℤ near *ℤ pos 7)) ∙ day_at-in (seed +ℤ near *ℤ pos 7) (omega (arith, signed_arith, found.0.0, found.0.1, found.1), omega (arith, signed_arith, found.0.0, found.0.1, found.1));
      before = omega (arith, signed_arith, found.1);
    }
moved-nearer_on keeps Months seed near far day h low lt e =
    months_nearer_on (keeps && true && is_month_end seed) seed near far day h (keeps_end keeps seed) low lt e
moved-nearer_on keeps Years seed near far day h low lt e =
    months_nearer_on (keeps && true && is_month_end seed) seed (near *ℤ pos 12) (far *ℤ pos 12) day h (keeps_end keeps seed) (omega (arith, signed_arith)) (omega (arith, signed_arith)) e

pub moved-nearer_back : (keeps : Bool) (unit : TimeUnit) (seed near far day : ℤ) → IsDayNumber seed → near ≤ℤ pos 0 → far <ℤ near → moved keeps unit seed far ≡ Some day → Nearer (moved keeps unit seed near) (λ x. day <ℤ x)
moved-nearer_back keeps Days seed near far day h high lt e =
    let alone = days_alone keeps (is_month_end seed) in
    let found = day_at-found (seed +ℤ far) day (sym (alone (day_at (seed +ℤ far))) ∙ e) in
    record {
      day = seed +ℤ near;
      is = alone (day_at (seed +ℤ near)) ∙ day_at-in (seed +ℤ near) (omega (arith, signed_arith, found.0.0, found.0.1, found.1), omega (arith, signed_arith, found.0.0, found.0.1, found.1));
      before = omega (arith, signed_arith, found.1);
    }
moved-nearer_back keeps Weeks seed near far day h high lt e =
    let alone = days_alone keeps (is_month_end seed) in
    let found = day_at-found (seed +ℤ far *ℤ pos 7) day (sym (alone (day_at (seed +ℤ far *ℤ pos 7))) ∙ e) in
    record {
      day = seed +ℤ near *ℤ pos 7;
      is = alone (day_at (seed +ℤ near *ℤ pos 7)) ∙ day_at-in (seed +ℤ near *ℤ pos 7) (omega (arith, signed_arith, found.0.0, found.0.1, found.1), omega (arith, signed_arith, found.0.0, found.0.1, found.1));
      before = omega (arith, signed_arith, found.1);
    }
moved-nearer_back keeps Months seed near far day h high lt e =
    months_nearer_back (keeps && true && is_month_end seed) seed near far day h (keeps_end keeps seed) high lt e
moved-nearer_back keeps Years seed near far day h high lt e =
    months_nearer_back (keeps && true && is_month_end seed) seed (near *ℤ pos 12) (far *ℤ pos 12) day h (keeps_end keeps seed) (omega (arith, signed_arith)) (omega (arith, signed_arith)) e

-- each of a unit takes its least days
pub moved-far_on : (keeps : Bool) (unit : TimeUnit) (seed day : ℤ) (n : ℕ) → IsDayNumber seed → moved keeps unit seed (pos (suc n)) ≡ Some day → (seed +ℤ pos (suc n * least_days unit)) ≤ℤ day
moved-far_on keeps Days seed day n h e =
    let found = day_at-found (seed +ℤ pos (suc n)) day (sym (days_alone keeps (is_month_end seed) (day_at (seed +ℤ pos (suc n)))) ∙ e) in
    omega (arith, signed_arith, found.1)
moved-far_on keeps Weeks seed day n h e =
    let found = day_at-found (seed +ℤ pos (suc n) *ℤ pos 7) day (sym (days_alone keeps (is_month_end seed) (day_at (seed +ℤ pos (suc n) *ℤ pos 7))) ∙ e) in
    omega (arith, signed_arith, found.1)
moved-far_on keeps Months seed day n h e =
    month_on seed day n h (month_in (keeps && true && is_month_end seed) seed (pos (suc n)) day h (keeps_end keeps seed) e)
moved-far_on keeps Years seed day n h e =
    let many : pos (suc n) *ℤ pos 12 ≡ pos (suc (n * 12 + 11)) = omega (arith, signed_arith) in
    let there = month_in (keeps && true && is_month_end seed) seed (pos (suc n) *ℤ pos 12) day h (keeps_end keeps seed) e in
    let far = month_on seed day (n * 12 + 11) h (rw many at there) in
    omega (arith, signed_arith, far)

pub moved-far_back : (keeps : Bool) (unit : TimeUnit) (seed day : ℤ) (n : ℕ) → IsDayNumber seed → moved keeps unit seed (neg_ℤ (pos (suc n))) ≡ Some day → (day +ℤ pos (suc n * least_days unit)) ≤ℤ seed
moved-far_back keeps Days seed day n h e =
    let found = day_at-found (seed +ℤ neg_ℤ (pos (suc n))) day (sym (days_alone keeps (is_month_end seed) (day_at (seed +ℤ neg_ℤ (pos (suc n))))) ∙ e) in
    omega (arith, signed_arith, found.1)
moved-far_back keeps Weeks seed day n h e =
    let found = day_at-found (seed +ℤ neg_ℤ (pos (suc n)) *ℤ pos 7) day (sym (days_alone keeps (is_month_end seed) (day_at (seed +ℤ neg_ℤ (pos (suc n)) *ℤ pos 7))) ∙ e) in
    omega (arith, signed_arith, found.1)
moved-far_back keeps Months seed day n h e =
    month_back seed day n h (month_in (keeps && true && is_month_end seed) seed (neg_ℤ (pos (suc n))) day h (keeps_end keeps seed) e)
moved-far_back keeps Years seed day n h e =
    let many : neg_ℤ (pos (suc n)) *ℤ pos 12 ≡ neg_ℤ (pos (suc (n * 12 + 11))) = omega (arith, signed_arith) in
    let there = month_in (keeps && true && is_month_end seed) seed (neg_ℤ (pos (suc n)) *ℤ pos 12) day h (keeps_end keeps seed) e in
    let far = month_back seed day (n * 12 + 11) h (rw many at there) in
    omega (arith, signed_arith, far)

-- months lead no more than 31 days on for each, and 3 days where the day is clipped
pub months_most : (seed day : ℤ) (n : ℕ) → IsDayNumber seed → month_at seed (pos n) ≡ Some day → day ≤ℤ (seed +ℤ pos (31 * n + 3))
months_most seed day n h e =
    let found = month_at-found seed (pos n) day e in
    let there = later_in seed (pos n) h found.0 in
    let here = own seed h in
    let m = index seed in
    let div = int_div_euclid-parts m 12 (omega arith) in
    let year = here.years.0 in
    let between = gap_most n m (m +ℤ pos n) (omega (arith, signed_arith)) refl in
    let long = lengths (m +ℤ pos n) in
    let same = found.1 in
    elim there.kept [
      | inl e ↦ omega (arith, signed_arith, between, there.is, here.is, e, same)
      | inr e ↦ omega (arith, signed_arith, between, there.is, here.is, e.0, e.1, long.1, same)
    ]
