-- The fixings of a fixings file, record by record (this project's profile).
use Rattle.std.specs.Prelude.{ℕ, ℤ, Bool, ◌&&◌, ◌==◌, ◌-◌, codes, if◌then◌else◌, List, length, Option, Some, None, slice_get, slice_set, Result, Ok, Err}
use Rattle.std.specs.Str.{bytes_eq}
use Rattle.desk_terms.specs.declared.kind.Wanted.TheVariants.{Index}
use Rattle.desk_terms.specs.declared.terms.Terms.{Terms}
use Rattle.desk_terms.specs.declared.terms.Terms.TheVariants as terms
use Rattle.flow_terms.specs.Fixings.{Stored, fixing_on, with_fixing}
use Rattle.market_tables.specs.declared.fault.MarketKind.{MarketKind}
use Rattle.market_tables.specs.declared.fault.MarketKind.TheVariants as fault
use Rattle.market_tables.specs.Given.{◌>>=◌}
use Rattle.market_tables.specs.Values.{day_of}
use Rattle.market_records.specs.Row.{field}
use Rattle.market_fields.specs.Earlier.{Earlier, named_object, served}
use Rattle.market_fields.specs.Limited.{rate_of}

-- the first record is `index,day,rate`
abbrev pub is_header : List (List ℕ) → Bool
is_header row =
    (length row == 3) && bytes_eq (field row 0) (codes "index") && bytes_eq (field row 1) (codes "day")
    && bytes_eq (field row 2) (codes "rate")

-- stored rates with one more, unless the day has one
abbrev pub stored : Stored → ℤ → ℤ → Option ℤ → Result Stored MarketKind
stored fixings day rate (Some kept) = Err fault.Exists
stored fixings day rate None = Ok (with_fixing fixings day rate)

-- the terms of an index with a rate of a day more
abbrev pub fixed : Terms → ℤ → ℤ → Result Terms MarketKind
fixed (terms.Index index fixings) day rate =
    stored fixings day rate (fixing_on fixings day) >>= (λ more. Ok (terms.Index index more))
fixed (terms.Quote value) day rate = Err fault.Kind
fixed (terms.Derived minus first second) day rate = Err fault.Kind
fixed (terms.Handle target_kind target) day rate = Err fault.Kind
fixed (terms.Curve curve) day rate = Err fault.Kind
fixed (terms.Implied curve reference) day rate = Err fault.Kind
fixed (terms.Engine curve) day rate = Err fault.Kind
fixed (terms.Stock quote) day rate = Err fault.Kind
fixed (terms.Composite parts) day rate = Err fault.Kind
fixed (terms.Flows flows engine) day rate = Err fault.Kind

-- objects, of which that at a place has a rate of a day more
abbrev pub fixed_in : List (ℕ × Terms) → ℕ → ℤ → ℤ → Option (ℕ × Terms) → Result (List (ℕ × Terms)) MarketKind
fixed_in made at day rate None = Err fault.Kind
fixed_in made at day rate (Some entry) = fixed entry.1 day rate >>= (λ t. Ok (slice_set made at (entry.0, t)))

-- the objects with a rate of a day more for an index; object 1 is the first that is made
abbrev pub with_fixing_of : Earlier → ℕ → ℤ → ℤ → Result Earlier MarketKind
with_fixing_of e index day rate =
    fixed_in e.made (index - 1) day rate (slice_get e.made (index - 1)) >>= (λ made. Ok (record e { made = made }))

-- the objects behind a record: its fields in their order, and then whether the index has a rate of that day
abbrev pub behind : Earlier → List (List ℕ) → Result Earlier MarketKind
behind e row =
    if length row == 3
    then (named_object e (field row 0) >>= (λ named. served Index named >>= (λ index.
    day_of (field row 1) >>= (λ day. rate_of (field row 2) >>= (λ rate. with_fixing_of e index day rate)))))
    else Err fault.Record
