-- What a name stands for in a market.
use Rattle.std.specs.Prelude.{ℕ, zero, suc, ℤ, Bool, true, false, not, if◌then◌else◌, List, Option, None, Some, slice_get}
use Rattle.std.specs.List.{All}
use Rattle.jiff_core.specs.Calendar.{IsWithin}
use Rattle.desk_names.specs.Names.{has_text, place_of}
use Rattle.desk_terms.specs.declared.terms.Terms.{Terms}
use Rattle.desk_terms.specs.declared.terms.Terms.TheVariants.{Quote, Derived, Handle, Curve, Implied, Index, Engine, Stock, Composite, Flows}
use Rattle.market_file.specs.Market.{Market}
use Rattle.market_file.specs.Standing.{AreLimited}
use Rattle.tool_bond.specs.declared.named.Place.{Place}
use Rattle.tool_bond.specs.declared.named.Place.TheVariants.{Nowhere, Today, Object}
use Rattle.tool_bond.specs.Words.{most_price}

-- the first name is that of the evaluation date, and then comes that of each object
abbrev pub place_of_number : ℕ → Place
place_of_number zero = Today
place_of_number (suc place) = Object place

abbrev pub place_named : List (List ℕ) → List ℕ → Place
place_named names name = if has_text names name then place_of_number (place_of names name) else Nowhere

-- only a bond, a swap or a forward rate agreement has flows
abbrev pub has_flows : Terms → Bool
has_flows (Flows flows engine) = true
has_flows (Quote value) = false
has_flows (Derived minus first second) = false
has_flows (Handle kind target) = false
has_flows (Curve terms) = false
has_flows (Implied curve reference) = false
has_flows (Index terms fixings) = false
has_flows (Engine curve) = false
has_flows (Stock quote) = false
has_flows (Composite parts) = false

abbrev pub entry_refused : Option (ℕ × Terms) → Bool
entry_refused None = true
entry_refused (Some entry) = not (has_flows entry.1)

abbrev pub place_refused : Market → Place → Bool
place_refused market Nowhere = true
place_refused market Today = true
place_refused market (Object at) = entry_refused (slice_get market.made at)

-- A NAME OF NO FLOWS in a market: unknown, or of another kind
abbrev pub is_refused : Market → List ℕ → Bool
is_refused market name = place_refused market (place_named market.names name)

-- terms within the limits of a market, and a price within its own
pub record IsTaken (made : List (ℕ × Terms)) (clean : ℤ) : Type 0 where
  pub limited : All (λ entry. AreLimited entry.1) made
  pub price : IsWithin most_price clean
