-- The helpers of a curve with the rates that their quotes give in a market.
use Rattle.std.specs.Prelude.{ℕ, ℤ, List, [], ◌∷◌, Option, None, Some}
use Rattle.holiday_calendars.specs.declared.bases.Base.TheVariants.{Null}
use Rattle.holiday_calendars.specs.declared.calendars.Calendar.TheVariants.{One}
use Rattle.curve_terms.specs.declared.terms.CurveTerms.{CurveTerms}
use Rattle.curve_terms.specs.declared.terms.Helper.{Helper}
use Rattle.desk_terms.specs.declared.terms.Terms.{Terms}
use Rattle.desk_terms.specs.declared.terms.Terms.TheVariants as terms
use Rattle.desk_model.specs.declared.entry.Entry.{Entry}
use Rattle.desk_model.specs.declared.entry.Entry.TheVariants.{Gives, Needs, Refuses}
use Rattle.desk_model.specs.Market.{Market, terms_at}
use Rattle.desk_model.specs.Uses.{input_at}
use Rattle.curve_drawing.specs.Pars.{Quotes}

abbrev pub helper_quotes : List Helper → List ℕ
helper_quotes [] = []
helper_quotes (helper ∷ helpers) = helper.quote ∷ helper_quotes helpers

-- the rate that an entry gives
abbrev pub rate_in : Entry → Option ℤ
rate_in (Gives rate) = Some rate
rate_in (Needs x) = None
rate_in (Refuses cause) = None

abbrev pub and_rates : Option ℤ → List ℤ → List ℤ
and_rates (Some rate) rates = rate ∷ rates
and_rates None rates = []

-- the rates of quotes, up to the first that gives none: a curve that has a value has one of each helper
abbrev pub rates_by : (ℕ → Entry) → List ℕ → List ℤ
rates_by read [] = []
rates_by read (quote ∷ quotes) = and_rates (rate_in (read quote)) (rates_by read quotes)

-- the terms of a curve that is built from helpers; all else has none
abbrev pub built_in : Option Terms → Option CurveTerms
built_in None = None
built_in (Some (terms.Quote value)) = None
built_in (Some (terms.Derived minus first second)) = None
built_in (Some (terms.Handle kind target)) = None
built_in (Some (terms.Curve built)) = Some built
built_in (Some (terms.Implied curve reference)) = None
built_in (Some (terms.Index index fixings)) = None
built_in (Some (terms.Engine curve)) = None
built_in (Some (terms.Stock quote)) = None
built_in (Some (terms.Composite parts)) = None
built_in (Some (terms.Flows flows engine)) = None

-- no helpers
abbrev pub unquoted : Quotes
unquoted = record { cal = One Null; helpers = []; rates = [] }

-- the helpers of a curve, with these rates
abbrev pub quotes_by : List ℤ → Option CurveTerms → Quotes
quotes_by rates None = unquoted
quotes_by rates (Some built) = record { cal = built.cal; helpers = built.helpers; rates = rates }

-- the quotes of an object with these terms
abbrev pub quotes_named : Option Terms → List ℕ
quotes_named found = helper_quotes (quotes_by [] (built_in found)).helpers

-- THE QUOTED HELPERS of an object of a market
abbrev pub quotes_at : Market → ℕ → Quotes
quotes_at market o = quotes_by (rates_by (input_at market) (quotes_named (terms_at market o))) (built_in (terms_at market o))
