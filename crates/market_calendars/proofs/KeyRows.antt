-- Each field of a calendar is that of its key: rows, where a table says at each word what it says.
use Rattle.std.proofs.Common.{◌≡◌, refl, map, ℕ, List, Option, Result, Ok}
use Rattle.std.specs.Prelude.{codes}
use Rattle.holiday_calendars.specs.declared.bases.Base.TheVariants as base
use Rattle.holiday_calendars.specs.Closed.{closed_on}
use Rattle.market_tables.specs.declared.fault.MarketKind.{MarketKind}
use Rattle.market_tables.specs.Given.{◌>>=◌}
use Rattle.market_tables.specs.Table.{Key}
use Rattle.market_calendars.specs.declared.keys.CalendarKind.{CalendarKind}
use Rattle.market_calendars.specs.declared.keys.CalendarKind.TheVariants as kind
use Rattle.market_calendars.specs.declared.calendars.NamedCalendar.{NamedCalendar}
use Rattle.market_calendars.specs.declared.calendars.NamedCalendar.TheVariants.{One, Joint}
use Rattle.market_calendars.specs.declared.places.Field.{Field}
use Rattle.market_calendars.specs.Keys.{keys_of}
use Rattle.market_calendars.specs.Making.{name_in, weekend_in, days_in, rule_in, parts_in, entry_made}

-- the fields of a table by what is said at the words of its keys
abbrev saying : {W P F : Type 0} → List (Key W P) → (List ℕ → Option F) → List (Option F)
saying keys said = map (λ k. said k.word) keys

module _ (said : List ℕ → Option Field) where
  -- what a kind makes where its keys say this
  abbrev made : CalendarKind → Result (List ℕ × NamedCalendar) MarketKind
  made k = entry_made k (saying (keys_of k) said)

  -- some calendar under the name
  abbrev named : Result NamedCalendar MarketKind → Result (List ℕ × NamedCalendar) MarketKind
  named calendar = name_in (said (codes "name")) >>= (λ name. calendar >>= (λ c. Ok (name, c)))

  pub null_by_keys : made kind.Null ≡ named (Ok (One base.Null))
  null_by_keys = refl

  pub weekends_by_keys : made kind.Weekends ≡ named (Ok (One base.Weekends))
  weekends_by_keys = refl

  pub target_by_keys : made kind.Target ≡ named (Ok (One base.Target))
  target_by_keys = refl

  pub bespoke_by_keys : made kind.Bespoke
      ≡ named (weekend_in (said (codes "weekend")) >>= (λ flags. days_in (said (codes "holidays")) >>= (λ days.
      Ok (One (base.Bespoke (closed_on flags days))))))
  bespoke_by_keys = refl

  pub joint_by_keys : made kind.Joint
      ≡ named (rule_in (said (codes "rule")) >>= (λ rule. parts_in (said (codes "parts")) >>= (λ parts. Ok (Joint rule parts))))
  joint_by_keys = refl
