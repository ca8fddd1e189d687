-- What one look at an object tells, over what is remembered.
use Rattle.std.specs.Prelude.{◌≡◌, ℕ, ℤ, Bool, List, length, Option, Some, None, slice_index_or, if◌then◌else◌}
use Rattle.desk_terms.specs.declared.terms.Terms.{Terms}
use Rattle.desk_terms.specs.declared.terms.Terms.TheVariants.{Quote, Derived, Handle, Curve, Implied, Index, Engine, Stock, Composite, Flows}
use Rattle.flow_terms.specs.declared.flows.FlowTerms.{FlowTerms}
use Rattle.flow_terms.specs.Flows.{needs_forecast}
use Rattle.desk_terms.specs.declared.cause.Cause.TheVariants.{Unset, Empty}
use Rattle.desk_model.specs.declared.entry.Entry.{Entry}
use Rattle.desk_model.specs.declared.entry.Entry.TheVariants.{Gives, Needs, Refuses}
use Rattle.desk_model.specs.Market.{Market, terms_at}
use Rattle.desk_model.specs.Uses.{derived_entry, input_at, index_in, fixings_in}
use Rattle.ask_walk.specs.declared.reader.Look.{Look}
use Rattle.ask_walk.specs.declared.reader.Look.TheVariants.{Is, First}

abbrev pub recalled : List (Option Entry) → ℕ → Option Entry
recalled entries x = slice_index_or entries x None

-- what is remembered is what the market's objects give
pub record Remembers (market : Market) (memo : List (Option Entry)) : Type 0 where
  pub same : length memo ≡ length market.objects
  pub entries : (x : ℕ) (entry : Entry) → recalled memo x ≡ Some entry → entry ≡ input_at market x

abbrev pub and_is : Option Entry → ℕ → Look
and_is (Some entry) x = Is entry
and_is None x = First x

abbrev pub and_sum : ℕ → Bool → Option Entry → ℕ → Option Entry → ℕ → Look
and_sum o minus None first b second = First first
and_sum o minus (Some a) first None second = First second
and_sum o minus (Some a) first (Some b) second = Is (derived_entry o minus a b)

-- the index of flows, where a rate has to be forecast
abbrev pub forecast_index : Market → FlowTerms → Option ℕ → Option ℕ
forecast_index market flows None = None
forecast_index market flows (Some x) =
    if needs_forecast flows.flows (fixings_in (index_in x (terms_at market x))) market.today
    then Some x
    else None

-- what a quote with this value gives
abbrev pub quote_entry : ℕ → Option ℤ → Entry
quote_entry o None = Refuses (Unset o)
quote_entry o (Some rate) = Gives rate

abbrev pub given_by : (ℕ → Option Entry) → ℕ → Option Terms → Look
given_by memo o None = Is (Refuses (Unset o))
given_by memo o (Some (Quote value)) = Is (quote_entry o value)
given_by memo o (Some (Derived minus first second)) = and_sum o minus (memo first) first (memo second) second
given_by memo o (Some (Handle kind None)) = Is (Refuses (Empty o))
given_by memo o (Some (Handle kind (Some target))) = and_is (memo target) target
given_by memo o (Some (Index terms fixings)) = and_is (memo terms.curve) terms.curve
given_by memo o (Some (Engine curve)) = and_is (memo curve) curve
given_by memo o (Some (Curve terms)) = Is (Needs o)
given_by memo o (Some (Implied curve reference)) = Is (Needs o)
given_by memo o (Some (Stock quote)) = Is (Needs o)
given_by memo o (Some (Composite parts)) = Is (Needs o)
given_by memo o (Some (Flows flows engine)) = Is (Needs o)

-- whose entry an object with these terms gives: that of what a handle, an index or an engine names, else its own
abbrev pub passed_to : ℕ → Option Terms → ℕ
passed_to o None = o
passed_to o (Some (Quote value)) = o
passed_to o (Some (Derived minus first second)) = o
passed_to o (Some (Handle kind None)) = o
passed_to o (Some (Handle kind (Some target))) = target
passed_to o (Some (Index terms fixings)) = terms.curve
passed_to o (Some (Engine curve)) = curve
passed_to o (Some (Curve terms)) = o
passed_to o (Some (Implied curve reference)) = o
passed_to o (Some (Stock quote)) = o
passed_to o (Some (Composite parts)) = o
passed_to o (Some (Flows flows engine)) = o
