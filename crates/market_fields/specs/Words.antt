-- The words of conventions, counters, rules, targets and sides (this project's profile).
use Rattle.std.specs.Prelude.{ℕ, codes, if◌then◌else◌, List, Result, Ok, Err}
use Rattle.std.specs.Str.{bytes_eq}
use Rattle.day_number.specs.declared.conventions.Convention.{Convention}
use Rattle.day_number.specs.declared.conventions.Convention.TheVariants as conventions
use Rattle.year_parts.specs.declared.counters.Counter.{Counter}
use Rattle.year_parts.specs.declared.counters.Counter.TheVariants as counters
use Rattle.schedule_rules.specs.declared.plans.Rule.{Rule}
use Rattle.schedule_rules.specs.declared.plans.Rule.TheVariants as rules
use Rattle.desk_terms.specs.declared.terms.HandleKind.{HandleKind}
use Rattle.desk_terms.specs.declared.terms.HandleKind.TheVariants as handles
use Rattle.market_fields.specs.declared.limited.Sign.{Sign}
use Rattle.market_fields.specs.declared.limited.Sign.TheVariants as signs
use Rattle.market_tables.specs.declared.fault.MarketKind.{MarketKind}
use Rattle.market_tables.specs.declared.fault.MarketKind.TheVariants as fault

-- the business-day convention
abbrev pub convention_of : List ℕ → Result Convention MarketKind
convention_of word =
    if bytes_eq word (codes "unadjusted") then Ok conventions.Unadjusted
    else (if bytes_eq word (codes "following") then Ok conventions.Following
    else (if bytes_eq word (codes "preceding") then Ok conventions.Preceding
    else (if bytes_eq word (codes "modified_following") then Ok conventions.ModifiedFollowing
    else (if bytes_eq word (codes "modified_preceding") then Ok conventions.ModifiedPreceding
    else (if bytes_eq word (codes "half_month_modified_following") then Ok conventions.HalfMonthModifiedFollowing
    else (if bytes_eq word (codes "nearest") then Ok conventions.Nearest
    else Err fault.Choice))))))

-- the day counter
abbrev pub counter_of : List ℕ → Result Counter MarketKind
counter_of word =
    if bytes_eq word (codes "act360") then Ok counters.Act360
    else (if bytes_eq word (codes "act365") then Ok counters.Act365
    else (if bytes_eq word (codes "actact") then Ok counters.ActAct
    else (if bytes_eq word (codes "thirty360") then Ok counters.Thirty360
    else (if bytes_eq word (codes "thirtye360") then Ok counters.ThirtyE360
    else (if bytes_eq word (codes "bus252") then Ok counters.Bus252
    else Err fault.Choice)))))

-- the rule of schedules
abbrev pub rule_of : List ℕ → Result Rule MarketKind
rule_of word =
    if bytes_eq word (codes "backward") then Ok rules.Backward
    else (if bytes_eq word (codes "forward") then Ok rules.Forward
    else (if bytes_eq word (codes "zero") then Ok rules.Zero
    else Err fault.Choice))

-- the kind of a handle's target
abbrev pub target_of : List ℕ → Result HandleKind MarketKind
target_of word =
    if bytes_eq word (codes "quote") then Ok handles.Quote
    else (if bytes_eq word (codes "curve") then Ok handles.Curve
    else Err fault.Choice)

-- the sign of a swap's fixed leg: what is paid is negative
abbrev pub leg_of : List ℕ → Result Sign MarketKind
leg_of word =
    if bytes_eq word (codes "pay") then Ok signs.Minus
    else (if bytes_eq word (codes "receive") then Ok signs.Plus
    else Err fault.Choice)

-- the sign of a forward rate agreement: the short one is negative
abbrev pub position_of : List ℕ → Result Sign MarketKind
position_of word =
    if bytes_eq word (codes "long") then Ok signs.Plus
    else (if bytes_eq word (codes "short") then Ok signs.Minus
    else Err fault.Choice)
