-- What texts of days and tenors say.
use Rattle.std.specs.Prelude.{◌≡◌, ◌↔◌, ℕ, ◌-◌, not, ◌&&◌, ◌==◌, nat_lt, nat_le, if◌then◌else◌, List, length, take, slice_index, slice_range, Option, Some, None, ℤ, pos}
use Rattle.std.specs.Int.{is_in_range}
use Rattle.std.specs.Str.{all_ascii_digits}
use Rattle.std.specs.Str.Parse.{digits_value}
use Rattle.jiff_core.specs.Calendar.{days_in_month}
use Rattle.day_number.specs.declared.tenors.Unit.{Unit as TimeUnit}
use Rattle.day_number.specs.declared.tenors.Tenor.{Tenor}
use Rattle.day_number.specs.Day.{IsDayNumber, civil_number, day_text}
use Rattle.day_number.specs.Tenor.{IsTenor, unit_of_letter, unit_limit, tenor_text}

-- the number that one or more decimal digits write
abbrev pub number_of_text : List ℕ → Option ℕ
number_of_text text =
    if nat_lt 0 (length text) && all_ascii_digits text then Some (digits_value 10 text) else None

-- the number of a date of the range
abbrev pub day_of_date : ℕ → ℕ → ℕ → Option ℤ
day_of_date year month day =
    if is_in_range 1901 2199 year && is_in_range 1 12 month
    && is_in_range 1 (days_in_month (pos year) month) day
    then Some (civil_number (pos year) month day) else None

-- the same of the numbers that three texts write
abbrev pub day_of_numbers : Option ℕ → Option ℕ → Option ℕ → Option ℤ
day_of_numbers (Some year) (Some month) (Some day) = day_of_date year month day
day_of_numbers _ _ _ = None

-- the day that a text YYYY-MM-DD names, with four, two and two digits
unfoldable pub day_of_text : List ℕ → Option ℤ
day_of_text text =
    if (length text == 10) && (slice_index text 4 == 45) && (slice_index text 7 == 45)
    then day_of_numbers (number_of_text (slice_range text 0 4))
    (number_of_text (slice_range text 5 7)) (number_of_text (slice_range text 8 10))
    else None

-- reading is the inverse of printing: a text names a day exactly where it is that day's text
abbrev pub ReadsWhatIsPrinted : Type 0
ReadsWhatIsPrinted =
    (text : List ℕ) (number : ℤ)
    → (day_of_text text ≡ Some number) ↔ (IsDayNumber number × (text ≡ day_text number))

-- the number that one to five decimal digits without a leading zero write
abbrev pub count_of_text : List ℕ → Option ℕ
count_of_text text =
    if nat_le (length text) 5 && not (slice_index text 0 == 48) then number_of_text text else None

-- the tenor of a unit and a count, where there is one
abbrev pub tenor_of : Option TimeUnit → Option ℕ → Option Tenor
tenor_of (Some unit) (Some count) =
    if is_in_range 1 (unit_limit unit) count
    then Some (record { count = pos count; unit = unit }) else None
tenor_of _ _ = None

-- the tenor that a text names: a count and the letter of a unit
unfoldable pub tenor_of_text : List ℕ → Option Tenor
tenor_of_text text =
    let digits = length text - 1 in
    tenor_of (unit_of_letter (slice_index text digits)) (count_of_text (take digits text))

-- a text names a tenor exactly where it is the text of a tenor within the limits
abbrev pub ReadsTenors : Type 0
ReadsTenors =
    (text : List ℕ) (tenor : Tenor)
    → (tenor_of_text text ≡ Some tenor) ↔ (IsTenor tenor × (text ≡ tenor_text tenor))
