-- What the fields of an object's table make.
use Rattle.std.specs.Prelude.{ℕ, ℤ, Bool, true, false, nat_lt, length, unwrap_or, if◌then◌else◌, List, [], Option, Some, None, Result, Ok, Err}
use Rattle.curve_terms.specs.declared.terms.CurveStart.{CurveStart}
use Rattle.curve_terms.specs.declared.terms.CurveStart.TheVariants.{Moving, Fixed}
use Rattle.desk_terms.specs.declared.kind.Wanted as wanted
use Rattle.desk_terms.specs.declared.terms.HandleKind as handle
use Rattle.desk_terms.specs.declared.terms.Part.{Part}
use Rattle.desk_terms.specs.declared.terms.Terms.{Terms}
use Rattle.desk_terms.specs.declared.terms.Terms.TheVariants as terms
use Rattle.instrument_terms.specs.Parts.{composite_or_fault}
use Rattle.market_tables.specs.declared.fault.MarketKind.{MarketKind}
use Rattle.market_tables.specs.declared.fault.MarketKind.TheVariants as fault
use Rattle.market_tables.specs.Given.{◌>>=◌}
use Rattle.market_tables.specs.Fields.{field_in, without}
use Rattle.market_fields.specs.declared.earlier.Named.{Named}
use Rattle.market_fields.specs.declared.field.Field.{Field}
use Rattle.market_fields.specs.declared.keys.ObjectKind.{ObjectKind}
use Rattle.market_fields.specs.declared.keys.ObjectKind.TheVariants as kind
use Rattle.market_fields.specs.Earlier.{Earlier, served}
use Rattle.market_fields.specs.Field.{must, name_in, object_in, named_in, target_in, day_in, count_in, tenor_in, convention_in, flag_in, counter_in, calendar_in, helpers_in, parts_in}
use Rattle.market_instruments.specs.Limits.{limited}
use Rattle.market_instruments.specs.Bonds.{bond_of}
use Rattle.market_instruments.specs.Swaps.{swap_of}
use Rattle.market_instruments.specs.Forwards.{forward_of}

-- a sum or a difference (QuantLib's CompositeQuote)
abbrev pub derived_of : Bool → List (Option Field) → Result Terms MarketKind
derived_of minus fs =
    must (object_in (field_in fs 1)) >>= (λ first. must (object_in (field_in fs 2)) >>= (λ second.
    Ok (terms.Derived minus first second)))

-- what a handle may be linked to
abbrev pub target_wanted : handle.HandleKind → wanted.Wanted
target_wanted handle.TheVariants.Quote = wanted.TheVariants.QuoteTarget
target_wanted handle.TheVariants.Curve = wanted.TheVariants.CurveTarget

abbrev pub linked : handle.HandleKind → Option Named → Result Terms MarketKind
linked target_kind None = Ok (terms.Handle target_kind None)
linked target_kind (Some named) =
    served (target_wanted target_kind) named >>= (λ object. Ok (terms.Handle target_kind (Some object)))

-- a handle with its target, or without one (QuantLib's RelinkableHandle)
abbrev pub handle_of : List (Option Field) → Result Terms MarketKind
handle_of fs = must (target_in (field_in fs 1)) >>= (λ target_kind. named_in (field_in fs 2) >>= linked target_kind)

-- the start of a curve: its settlement days or its reference day, and not both
abbrev pub start_of : Option ℕ → Option ℤ → Result CurveStart MarketKind
start_of (Some settlement) None = Ok (Moving settlement)
start_of None (Some reference) = Ok (Fixed reference)
start_of (Some settlement) (Some reference) = Err fault.Key
start_of None None = Err fault.Key

-- a curve that is built from its helpers (QuantLib's PiecewiseYieldCurve)
abbrev pub curve_of : List (Option Field) → Result Terms MarketKind
curve_of fs =
    count_in (field_in fs 2) >>= (λ settlement. day_in (field_in fs 3) >>= (λ reference.
    start_of settlement reference >>= (λ start. must (calendar_in (field_in fs 1)) >>= (λ cal.
    must (helpers_in (field_in fs 4)) >>= (λ helpers.
    Ok (terms.Curve (record { cal = cal; start = start; helpers = helpers })))))))

-- a curve seen from a later day (QuantLib's ImpliedTermStructure)
abbrev pub implied_of : List (Option Field) → Result Terms MarketKind
implied_of fs =
    must (object_in (field_in fs 1)) >>= (λ curve. must (day_in (field_in fs 2)) >>= (λ reference.
    Ok (terms.Implied curve reference)))

-- an index without stored rates (QuantLib's IborIndex)
abbrev pub index_of : List (Option Field) → Result Terms MarketKind
index_of fs =
    must (count_in (field_in fs 2)) >>= (λ fixing_days. must (tenor_in (field_in fs 3)) >>= (λ tenor.
    must (convention_in (field_in fs 4)) >>= (λ conv. flag_in (field_in fs 5) >>= (λ eom.
    must (counter_in (field_in fs 6)) >>= (λ counter. must (object_in (field_in fs 7)) >>= (λ curve.
    must (calendar_in (field_in fs 1)) >>= (λ cal.
    Ok (terms.Index (record {
      cal = cal;
      fixing_days = fixing_days;
      tenor = tenor;
      conv = conv;
      eom = unwrap_or eom false;
      counter = counter;
      curve = curve;
    }) []))))))))

abbrev pub engine_of : List (Option Field) → Result Terms MarketKind
engine_of fs = must (object_in (field_in fs 1)) >>= (λ curve. Ok (terms.Engine curve))

abbrev pub stock_of : List (Option Field) → Result Terms MarketKind
stock_of fs = must (object_in (field_in fs 1)) >>= (λ quote. Ok (terms.Stock quote))

-- a composite, which names no member twice (QuantLib's CompositeInstrument); one of more parts than there may be objects
-- names one twice
abbrev pub composite_of : List Part → Result Terms MarketKind
composite_of parts = if nat_lt 4095 (length parts) then Err fault.Parts else limited (composite_or_fault parts)

abbrev pub or_no_parts : Option (List Part) → Result Terms MarketKind
or_no_parts None = composite_of []
or_no_parts (Some parts) = composite_of parts

-- the composite of a key that may be missing
abbrev pub parts_of : Option Field → Result Terms MarketKind
parts_of field = parts_in field >>= or_no_parts

-- the terms of a kind, of the fields
abbrev pub terms_of : Earlier → ObjectKind → List (Option Field) → Result Terms MarketKind
terms_of e kind.Sum fs = derived_of false fs
terms_of e kind.Difference fs = derived_of true fs
terms_of e kind.Handle fs = handle_of fs
terms_of e kind.Curve fs = curve_of fs
terms_of e kind.Implied fs = implied_of fs
terms_of e kind.Index fs = index_of fs
terms_of e kind.Engine fs = engine_of fs
terms_of e kind.Stock fs = stock_of fs
terms_of e kind.Composite fs = parts_of (field_in fs 1)
terms_of e kind.Bond fs = bond_of e fs
terms_of e kind.Swap fs = swap_of e fs
terms_of e kind.Fra fs = forward_of e fs

-- the name and the terms that a kind makes of its fields
abbrev pub entry_made : Earlier → ObjectKind → List (Option Field) → Result (List ℕ × Terms) MarketKind
entry_made e kind fs =
    must (name_in (field_in fs 0)) >>= (λ name. terms_of e kind (without fs 0) >>= (λ t. Ok (name, t)))
