-- What a price reads: the values and the objects that it takes, in order.
use Rattle.std.specs.Prelude.{ℕ, zero, suc, Bool, ◌&&◌, List, [], ◌∷◌, length, Option, Some, None, ℤ, pos, neg_ℤ, int_le, if◌then◌else◌, ◌^◌, ◌+ℤ◌, ◌-ℤ◌}
use Rattle.desk_terms.specs.declared.terms.Terms.{Terms}
use Rattle.desk_terms.specs.declared.terms.Part.{Part}
use Rattle.curve_terms.specs.declared.terms.Helper.{Helper}
use Rattle.flow_terms.specs.Fixings.{Stored}
use Rattle.desk_terms.specs.declared.terms.Terms.TheVariants.{Quote, Derived, Handle, Curve, Implied, Index, Engine, Stock, Composite, Flows}
use Rattle.flow_terms.specs.declared.flows.FlowTerm.{FlowTerm}
use Rattle.desk_terms.specs.declared.value.Input as input
use Rattle.desk_terms.specs.declared.cause.Cause.TheVariants.{Unset, Empty, NoEngine, TooLarge}
use Rattle.desk_terms.specs.Reading.{Reading, IndexReading, day_read, named_index}
use Rattle.flow_terms.specs.Flows.{is_expired, needs_forecast}
use Rattle.desk_model.specs.declared.entry.Entry.{Entry}
use Rattle.desk_model.specs.declared.entry.Entry.TheVariants.{Gives, Needs, Refuses}
use Rattle.desk_model.specs.Market.{Market, terms_at}

-- a rate within its limits, or that o is too large
abbrev pub rate_entry : ℕ → ℤ → Entry
rate_entry o rate =
    if int_le (neg_ℤ (pos (10 ^ 18))) rate && int_le rate (pos (10 ^ 18))
    then Gives rate
    else Refuses (TooLarge o)

-- the sum or difference of what two inputs give; the refusal of the first comes before that of the second. (Inputs of
-- the right kinds need no computation.)
abbrev pub derived_entry : ℕ → Bool → Entry → Entry → Entry
derived_entry o minus (Refuses cause) second = Refuses cause
derived_entry o minus (Needs x) second = Refuses (Unset o)
derived_entry o minus (Gives a) (Refuses cause) = Refuses cause
derived_entry o minus (Gives a) (Needs x) = Refuses (Unset o)
derived_entry o minus (Gives a) (Gives b) = rate_entry o (if minus then a -ℤ b else a +ℤ b)

-- What o gives where another object names it: a quote its rate, a sum or difference its rate, a handle what its target
-- gives, an index and an engine what their curve gives, a lazy object itself (QuantLib's `Quote::value`,
-- `Handle::currentLink`).
abbrev pub given : (ℕ → Entry) → ℕ → Option Terms → Entry
given read o None = Refuses (Unset o)
given read o (Some (Quote None)) = Refuses (Unset o)
given read o (Some (Quote (Some rate))) = Gives rate
given read o (Some (Derived minus first second)) = derived_entry o minus (read first) (read second)
given read o (Some (Handle kind None)) = Refuses (Empty o)
given read o (Some (Handle kind (Some target))) = read target
given read o (Some (Index terms fixings)) = read terms.curve
given read o (Some (Engine curve)) = read curve
given read o (Some (Curve terms)) = Needs o
given read o (Some (Implied curve reference)) = Needs o
given read o (Some (Stock quote)) = Needs o
given read o (Some (Composite parts)) = Needs o
given read o (Some (Flows flows engine)) = Needs o

-- the same, over paths of at most n edges
unfoldable pub input_by : Market → ℕ → ℕ → Entry
input_by market zero o = Refuses (Unset o)
input_by market (suc n) o = given (input_by market n) o (terms_at market o)

unfoldable pub input_at : Market → ℕ → Entry
input_at market o = input_by market (suc (length market.objects)) o

-- an index as a price sees it
abbrev pub index_in : ℕ → Option Terms → Option IndexReading
index_in x None = None
index_in x (Some (Quote value)) = None
index_in x (Some (Derived minus first second)) = None
index_in x (Some (Handle kind target)) = None
index_in x (Some (Index terms fixings)) = Some (record { object = x; terms = terms; fixings = fixings })
index_in x (Some (Engine curve)) = None
index_in x (Some (Curve terms)) = None
index_in x (Some (Implied curve reference)) = None
index_in x (Some (Stock quote)) = None
index_in x (Some (Composite parts)) = None
index_in x (Some (Flows flows engine)) = None

abbrev pub index_at : Market → Option ℕ → Option IndexReading
index_at market None = None
index_at market (Some x) = index_in x (terms_at market x)

abbrev pub fixings_in : Option IndexReading → Stored
fixings_in None = []
fixings_in (Some index) = index.fixings

-- the index's curve, exactly where a forecast is needed
abbrev pub forecast_entries : (ℕ → Entry) → Market → List FlowTerm → Option ℕ → List Entry
forecast_entries read market flows None = []
forecast_entries read market flows (Some x) =
    if needs_forecast flows (fixings_in (index_in x (terms_at market x))) market.today
    then read x ∷ []
    else []

abbrev pub engine_entries : (ℕ → Entry) → ℕ → Option ℕ → List Entry → List Entry
engine_entries read o None forecast = Refuses (NoEngine o) ∷ []
engine_entries read o (Some e) forecast = read e ∷ forecast

abbrev pub helper_entries : (ℕ → Entry) → List Helper → List Entry
helper_entries read [] = []
helper_entries read (helper ∷ helpers) = read helper.quote ∷ helper_entries read helpers

abbrev pub member_entries : List Part → List Entry
member_entries [] = []
member_entries (part ∷ parts) = Needs part.member ∷ member_entries parts

-- What the price of an object with these terms takes, in order: nothing where its flows are all paid (QuantLib's
-- `Instrument::calculate`, `isExpired`).
abbrev pub uses_of : (ℕ → Entry) → Market → ℕ → Option Terms → List Entry
uses_of read market o None = []
uses_of read market o (Some (Quote value)) = []
uses_of read market o (Some (Derived minus first second)) = []
uses_of read market o (Some (Handle kind target)) = []
uses_of read market o (Some (Index terms fixings)) = []
uses_of read market o (Some (Engine curve)) = []
uses_of read market o (Some (Curve terms)) = helper_entries read terms.helpers
uses_of read market o (Some (Implied curve reference)) = read curve ∷ []
uses_of read market o (Some (Stock quote)) = read quote ∷ []
uses_of read market o (Some (Composite parts)) = member_entries parts
uses_of read market o (Some (Flows flows engine)) =
    if is_expired flows.flows market.today
    then []
    else engine_entries read o engine (forecast_entries read market flows.flows flows.index)

abbrev pub uses : Market → ℕ → List Entry
uses market o = uses_of (input_at market) market o (terms_at market o)

-- the objects among these entries
abbrev pub needed : List Entry → List ℕ
needed [] = []
needed (Gives rate ∷ entries) = needed entries
needed (Needs x ∷ entries) = x ∷ needed entries
needed (Refuses cause ∷ entries) = needed entries

abbrev pub needs : Market → ℕ → List ℕ
needs market o = needed (uses market o)

-- THE ONE PLACE THAT MAKES A READING: what the price of o with these terms over these inputs depends on
abbrev pub reading_at : Market → ℕ → Terms → List input.Input → Reading
reading_at market o terms inputs = record {
  object = o;
  terms = terms;
  inputs = inputs;
  today = day_read terms market.today;
  index = index_at market (named_index terms);
}
