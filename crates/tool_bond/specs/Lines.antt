-- What is written of a name, byte by byte (this project's profile).
use Rattle.std.specs.Prelude.{ℕ, ℤ, ◌+ℤ◌, unsigned_abs, List, ◌++◌, codes, Option, None, Some, Result, Ok, Err, slice_get}
use Rattle.fixed_amount.specs.Decimal.{decimal_text}
use Rattle.flow_terms.specs.declared.flows.FlowTerm.{FlowTerm}
use Rattle.desk_terms.specs.declared.terms.Terms.{Terms}
use Rattle.desk_terms.specs.declared.terms.Terms.TheVariants.{Quote, Derived, Handle, Curve, Implied, Index, Engine, Stock, Composite, Flows}
use Rattle.market_file.specs.Market.{Market}
use Rattle.bond_yield.specs.declared.bonds.YieldFault.{YieldFault}
use Rattle.bond_yield.specs.declared.bonds.YieldFault.TheVariants.{NotFixed, NoFlow, Above, Below}
use Rattle.bond_yield.specs.Accrued.{accrued}
use Rattle.bond_yield.specs.Yield.{yield_of}
use Rattle.tool_bond.specs.declared.named.Place.{Place}
use Rattle.tool_bond.specs.declared.named.Place.TheVariants as place
use Rattle.tool_bond.specs.Named.{place_named}
use Rattle.tool_bond.specs.Wording.{Bond, Wording}

-- `NAME WORD VALUE`
abbrev pub value_line : List ℕ → List ℕ → ℤ → ℕ → List ℕ
value_line name word units places = name ++ codes " " ++ word ++ codes " " ++ decimal_text units places ++ codes "\n"

-- `NAME refused WORD`
abbrev pub refused_line : List ℕ → List ℕ → List ℕ
refused_line name word = name ++ codes " refused " ++ word ++ codes "\n"

-- `refused WHAT WORD NAME`, with what is asked for
abbrev pub unnamed_line : Wording → List ℕ → List ℕ → List ℕ
unnamed_line said word name = codes "refused " ++ said.word ++ codes " " ++ word ++ codes " " ++ name ++ codes "\n"

-- `NAME accrued A` and `NAME full F`, the clean price with the accrued interest
abbrev pub priced_text : List ℕ → ℤ → ℤ → List ℕ
priced_text name interest clean =
    value_line name (codes "accrued") interest 6 ++ value_line name (codes "full") (clean +ℤ interest) 6

-- and `NAME yield Y`
abbrev pub yield_text : List ℕ → ℤ → ℤ → ℤ → List ℕ
yield_text name interest clean yield = priced_text name interest clean ++ value_line name (codes "yield") yield 9

-- or `NAME refused above P` or `NAME refused below P`
abbrev pub beyond_text : List ℕ → ℤ → ℤ → List ℕ → ℤ → List ℕ
beyond_text name interest clean word price = priced_text name interest clean ++ value_line name word price 6

-- the lines of flows that have no yield
abbrev pub fault_text : List ℕ → ℤ → ℤ → YieldFault → List ℕ
fault_text name interest clean NotFixed = refused_line name (codes "notfixed")
fault_text name interest clean NoFlow = refused_line name (codes "noflow")
fault_text name interest clean (Above price) = beyond_text name interest clean (codes "refused above") price
fault_text name interest clean (Below price) = beyond_text name interest clean (codes "refused below") price

-- a bond of a market that has a yield at a clean price
abbrev pub bond_at : Market → Option ℕ → List ℕ → List FlowTerm → ℤ → ℤ → ℤ → Bond
bond_at market engine name flows settle clean yield = record {
  market = market;
  engine = engine;
  name = name;
  flows = flows;
  settle = settle;
  full = clean +ℤ accrued flows settle;
  yield = unsigned_abs yield;
}

-- the lines of flows by their yield, with what is said behind it, or by why they have none
abbrev pub answer_text : Wording → Market → Option ℕ → List ℕ → List FlowTerm → ℤ → ℤ → Result ℤ YieldFault → List ℕ
answer_text said market engine name flows settle clean (Ok yield) =
    yield_text name (accrued flows settle) clean yield ++ said.more (bond_at market engine name flows settle clean yield)
answer_text said market engine name flows settle clean (Err fault) = fault_text name (accrued flows settle) clean fault

abbrev pub bond_text : Wording → Market → Option ℕ → List ℕ → List FlowTerm → ℤ → ℤ → List ℕ
bond_text said market engine name flows settle clean =
    answer_text said market engine name flows settle clean (yield_of flows settle clean)

-- the lines of an object by its terms: only a bond, a swap or a forward rate agreement has flows
abbrev pub terms_text : Wording → Market → Terms → List ℕ → ℤ → ℤ → List ℕ
terms_text said market (Flows flows engine) name settle clean = bond_text said market engine name flows.flows settle clean
terms_text said market (Quote value) name settle clean = unnamed_line said (codes "kind") name
terms_text said market (Derived minus first second) name settle clean = unnamed_line said (codes "kind") name
terms_text said market (Handle kind target) name settle clean = unnamed_line said (codes "kind") name
terms_text said market (Curve terms) name settle clean = unnamed_line said (codes "kind") name
terms_text said market (Implied curve reference) name settle clean = unnamed_line said (codes "kind") name
terms_text said market (Index terms fixings) name settle clean = unnamed_line said (codes "kind") name
terms_text said market (Engine curve) name settle clean = unnamed_line said (codes "kind") name
terms_text said market (Stock quote) name settle clean = unnamed_line said (codes "kind") name
terms_text said market (Composite parts) name settle clean = unnamed_line said (codes "kind") name

abbrev pub entry_text : Wording → Market → Option (ℕ × Terms) → List ℕ → ℤ → ℤ → List ℕ
entry_text said market None name settle clean = unnamed_line said (codes "unknown") name
entry_text said market (Some entry) name settle clean = terms_text said market entry.1 name settle clean

abbrev pub place_text : Wording → Market → Place → List ℕ → ℤ → ℤ → List ℕ
place_text said market place.Nowhere name settle clean = unnamed_line said (codes "unknown") name
place_text said market place.Today name settle clean = unnamed_line said (codes "kind") name
place_text said market (place.Object at) name settle clean = entry_text said market (slice_get market.made at) name settle clean

-- THE LINES of a name in a market
abbrev pub name_text : Wording → Market → List ℕ → ℤ → ℤ → List ℕ
name_text said market name settle clean = place_text said market (place_named market.names name) name settle clean

unfoldable pub market_text : Wording → Market → List ℕ → ℤ → ℤ → List ℕ
market_text said market name settle clean = name_text said market name settle clean
