-- What a market is said to hold that is checked (this project's profile).
use Rattle.std.specs.Prelude.{ℕ, List, length, sum_by}
use Rattle.desk_terms.specs.declared.terms.Terms.{Terms}
use Rattle.desk_terms.specs.declared.terms.Terms.TheVariants.{Quote, Derived, Handle, Curve, Implied, Index, Engine, Stock, Composite, Flows}

-- how many rates an object stores: those of an index
abbrev pub stored_in : Terms → ℕ
stored_in (Quote value) = 0
stored_in (Derived minus first second) = 0
stored_in (Handle kind target) = 0
stored_in (Curve terms) = 0
stored_in (Implied curve reference) = 0
stored_in (Index terms fixings) = length fixings
stored_in (Engine curve) = 0
stored_in (Stock quote) = 0
stored_in (Composite parts) = 0
stored_in (Flows flows engine) = 0

-- how many fixings are stored in all indexes together
abbrev pub fixings_in : List (ℕ × Terms) → ℕ
fixings_in made = sum_by (λ entry. stored_in entry.1) made
