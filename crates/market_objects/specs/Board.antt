-- The objects of a market so far.
use Rattle.std.specs.Prelude.{ℕ, nat_le, codes, if◌then◌else◌, List, [], ◌∷◌, ◌++◌, length, Result, Ok, Err}
use Rattle.std.specs.List.{All}
use Rattle.desk_names.specs.Names.{place_of, with_text}
use Rattle.desk_terms.specs.declared.kind.Kind.TheVariants.{Today}
use Rattle.desk_terms.specs.declared.terms.Terms.{Terms}
use Rattle.desk_terms.specs.declared.terms.Terms.TheVariants.{Quote, Derived, Handle, Curve, Implied, Index, Engine, Stock, Composite, Flows}
use Rattle.desk_terms.specs.Terms.{kind_of}
use Rattle.flow_terms.specs.Ranges.{AreFlowsInRange}
use Rattle.market_tables.specs.declared.fault.MarketKind.{MarketKind}
use Rattle.market_tables.specs.declared.fault.MarketKind.TheVariants as fault
use Rattle.market_calendars.specs.Calendars.{Calendars}
use Rattle.market_fields.specs.declared.version.Version.{Version}
use Rattle.market_fields.specs.Earlier.{Earlier}

-- the flows of terms that have some are within their limits
abbrev pub HasFlowsInRange : Terms → Type 0
HasFlowsInRange (Quote value) = Unit {0}
HasFlowsInRange (Derived minus first second) = Unit {0}
HasFlowsInRange (Handle kind target) = Unit {0}
HasFlowsInRange (Curve terms) = Unit {0}
HasFlowsInRange (Implied curve reference) = Unit {0}
HasFlowsInRange (Index terms fixings) = Unit {0}
HasFlowsInRange (Engine curve) = Unit {0}
HasFlowsInRange (Stock quote) = Unit {0}
HasFlowsInRange (Composite parts) = Unit {0}
HasFlowsInRange (Flows flows engine) = AreFlowsInRange flows

-- the same of each object
abbrev pub HaveFlowsInRange : List (ℕ × Terms) → Type 0
HaveFlowsInRange made = All (λ entry. HasFlowsInRange entry.1) made

-- `today` alone, in a version and over some calendars
abbrev pub started : Version → Calendars → Earlier
started version calendars =
    record { names = codes "today" ∷ []; kinds = Today ∷ []; made = []; calendars = calendars; version = version }

-- the objects with one more, up to 4,096 with `today` (this project's profile)
abbrev pub added : Earlier → List ℕ → Terms → Result Earlier MarketKind
added e name t =
    if nat_le 4096 (length e.kinds) then Err fault.Limit
    else Ok (record {
      names = with_text e.names name;
      kinds = e.kinds ++ kind_of t ∷ [];
      made = e.made ++ (place_of e.names name, t) ∷ [];
      calendars = e.calendars;
      version = e.version;
    })
