-- The definitions at known days: numbers from Python's datetime, and texts.
use Rattle.std.proofs.Common.{◌≡◌, refl, map, [], ◌∷◌, pos, neg_ℤ, Some, None, codes}
use Rattle.day_number.specs.declared.tenors.Unit.TheVariants.{Days, Weeks, Months, Years}
use Rattle.jiff_core.specs.Calendar.{days_from_civil, day_count, days_of_years, days_of_months}
use Rattle.day_number.specs.Day.{civil_number, date_of, date_after, date_in_year, day_text}
use Rattle.day_number.specs.Text.{day_of_text, tenor_of_text}

first_number : civil_number (pos 1901) 1 1 ≡ neg_ℤ (pos 25_202)
unfolding civil_number days_from_civil day_count days_of_years days_of_months
first_number = refl

leap_number : civil_number (pos 2000) 2 29 ≡ pos 11_016
unfolding civil_number days_from_civil day_count days_of_years days_of_months
leap_number = refl

last_number : civil_number (pos 2199) 12 31 ≡ pos 84_005
unfolding civil_number days_from_civil day_count days_of_years days_of_months
last_number = refl

day_texts : map day_text (neg_ℤ (pos 25_202) ∷ neg_ℤ (pos 1) ∷ pos 0 ∷ pos 11_016 ∷ pos 19_726 ∷ pos 47_541 ∷ pos 84_005 ∷ []) ≡ codes "1901-01-01" ∷ codes "1969-12-31" ∷ codes "1970-01-01" ∷ codes "2000-02-29" ∷ codes "2024-01-04" ∷ codes "2100-03-01" ∷ codes "2199-12-31" ∷ []
unfolding date_of date_after date_in_year
day_texts = refl

text_days : map day_of_text (codes "2024-01-04" ∷ codes "2000-02-29" ∷ codes "2100-02-29" ∷ codes "1900-12-31" ∷ codes "2200-01-01" ∷ codes "2024-1-04" ∷ codes "+024-01-04" ∷ codes "2024-01-04 " ∷ []) ≡ Some (pos 19_726) ∷ Some (pos 11_016) ∷ None ∷ None ∷ None ∷ None ∷ None ∷ None ∷ []
unfolding day_of_text civil_number days_from_civil day_count days_of_years days_of_months
text_days = refl

text_tenors : map tenor_of_text (codes "1D" ∷ codes "3100W" ∷ codes "720M" ∷ codes "60Y" ∷ codes "61Y" ∷ codes "22001D" ∷ codes "01D" ∷ codes "0D" ∷ codes "D" ∷ codes "1" ∷ codes "1d" ∷ codes "100000D" ∷ []) ≡ Some (record { count = pos 1; unit = Days }) ∷ Some (record { count = pos 3_100; unit = Weeks }) ∷ Some (record { count = pos 720; unit = Months }) ∷ Some (record { count = pos 60; unit = Years }) ∷ None ∷ None ∷ None ∷ None ∷ None ∷ None ∷ None ∷ None ∷ []
unfolding tenor_of_text
text_tenors = refl
