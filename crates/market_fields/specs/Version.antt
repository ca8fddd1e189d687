-- The versions of a market's format (this project's profile).
use Rattle.std.specs.Prelude.{Bool, false, codes, if◌then◌else◌, Option, Some, None, Result, Ok, Err}
use Rattle.std.specs.Option.{option_and_then}
use Rattle.toml.specs.Data.{Data, Members, get_member, as_str}
use Rattle.market_tables.specs.declared.fault.MarketKind.{MarketKind}
use Rattle.market_tables.specs.declared.fault.MarketKind.TheVariants as fault
use Rattle.market_fields.specs.declared.keys.ObjectKind.{ObjectKind}
use Rattle.market_fields.specs.declared.keys.ObjectKind.TheVariants.{Sum, Difference, Handle, Curve, Implied, Index, Engine, Stock, Composite, Bond, Swap, Fra}
use Rattle.market_fields.specs.declared.version.Version.{Version}
use Rattle.market_fields.specs.declared.version.Version.TheVariants.{One, Two}
use Rattle.market_fields.specs.Presence.{has}
use Rattle.market_fields.specs.Keys.{kind_of}

-- the kind of a table, where it says one that there is
abbrev pub kind_there : Members → Option ObjectKind
kind_there table = option_and_then (λ d. option_and_then kind_of (as_str d)) (get_member (codes "kind") table)

-- whether a table of a kind has the key that version 1 does not have there
abbrev pub has_later_key : ObjectKind → Members → Bool
has_later_key Sum table = false
has_later_key Difference table = false
has_later_key Handle table = false
has_later_key Curve table = has (codes "reference") table
has_later_key Implied table = false
has_later_key Index table = false
has_later_key Engine table = false
has_later_key Stock table = false
has_later_key Composite table = false
has_later_key Bond table = has (codes "payment_lag") table
has_later_key Swap table = has (codes "payment_lag") table
has_later_key Fra table = false

abbrev pub is_later : Option ObjectKind → Members → Bool
is_later None table = false
is_later (Some kind) table = has_later_key kind table

-- a table of a version: to one of version 1 the keys of version 2 alone are keys that its kind does not have; a table
-- of no kind has another fault first
abbrev pub in_version : Version → Members → Result Members MarketKind
in_version One table = if is_later (kind_there table) table then Err fault.Key else Ok table
in_version Two table = Ok table
