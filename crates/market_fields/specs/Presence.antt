-- When the keys of objects must stand (this project's profile).
use Rattle.std.specs.Prelude.{ℕ, Bool, true, false, not, ◌&&◌, ◌||◌, is_some, codes, if◌then◌else◌, List, Result, Ok, Err}
use Rattle.toml.specs.Data.{Members, get_member}
use Rattle.market_tables.specs.declared.fault.MarketKind.{MarketKind}
use Rattle.market_tables.specs.declared.fault.MarketKind.TheVariants as fault
use Rattle.market_fields.specs.declared.presence.KeyPresence.{KeyPresence}
use Rattle.market_fields.specs.declared.presence.KeyPresence.TheVariants.{Always, Optional, Start, Structure, WithCoupons}

abbrev pub has : List ℕ → Members → Bool
has word table = is_some (get_member word table)

-- a key that only a bond with coupons has
abbrev pub has_coupon_key : Members → Bool
has_coupon_key table =
    has (codes "spread") table || has (codes "every") table || has (codes "rule") table
    || has (codes "convention") table || has (codes "end_convention") table || has (codes "month_end") table
    || has (codes "counter") table || has (codes "first") table || has (codes "last") table

-- a curve has settlement days or a reference day of its own, and not both
abbrev pub start : Members → Result Bool MarketKind
start table =
    if (has (codes "settlement") table && has (codes "reference") table)
    || (not (has (codes "settlement") table) && not (has (codes "reference") table))
    then Err fault.Key else Ok false

-- a bond has a fixed coupon or an index, and no spread with a fixed coupon; without these two it has no key of coupons
abbrev pub structure : Members → Result Bool MarketKind
structure table =
    if (has (codes "coupon") table && has (codes "index") table)
    || (not (has (codes "coupon") table) && not (has (codes "index") table) && has_coupon_key table)
    || (has (codes "coupon") table && has (codes "spread") table)
    then Err fault.Key else Ok false

-- whether a key must stand in a table, or the fault of the table's structure
abbrev pub required : KeyPresence → Members → Result Bool MarketKind
required Always table = Ok true
required Optional table = Ok false
required Start table = start table
required Structure table = structure table
required WithCoupons table = Ok (has (codes "coupon") table || has (codes "index") table)
