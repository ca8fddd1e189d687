-- The kinds of calendars and their keys (this project's profile).
use Rattle.std.specs.Prelude.{ℕ, List, [], ◌∷◌, codes, Option}
use Rattle.std.specs.List.{find}
use Rattle.std.specs.Str.{bytes_eq}
use Rattle.market_tables.specs.Table.{Key}
use Rattle.market_tables.specs.declared.presence.Presence.{Presence}
use Rattle.market_tables.specs.declared.presence.Presence.TheVariants.{Always}
use Rattle.market_calendars.specs.declared.keys.CalendarKind.{CalendarKind}
use Rattle.market_calendars.specs.declared.keys.CalendarKind.TheVariants.{Null, Weekends, Target, Bespoke, Joint}
use Rattle.market_calendars.specs.declared.keys.CalendarPlace.{CalendarPlace}
use Rattle.market_calendars.specs.declared.keys.CalendarPlace.TheVariants as place

-- a key that must stand in the table
abbrev pub key : List ℕ → CalendarPlace → Key Presence CalendarPlace
key word place = record { word = word; presence = Always; place = place }

abbrev pub kind_word : CalendarKind → List ℕ
kind_word Null = codes "null"
kind_word Weekends = codes "weekends"
kind_word Target = codes "target"
kind_word Bespoke = codes "bespoke"
kind_word Joint = codes "joint"

abbrev pub kinds : List CalendarKind
kinds = Null ∷ Weekends ∷ Target ∷ Bespoke ∷ Joint ∷ []

abbrev pub kind_of : List ℕ → Option CalendarKind
kind_of word = find (λ k. bytes_eq (kind_word k) word) kinds

-- the keys of each kind, in listed order
abbrev pub keys_of : CalendarKind → List (Key Presence CalendarPlace)
keys_of Null = key (codes "name") place.NewName ∷ []
keys_of Weekends = key (codes "name") place.NewName ∷ []
keys_of Target = key (codes "name") place.NewName ∷ []
keys_of Bespoke =
    key (codes "name") place.NewName
    ∷ key (codes "weekend") place.Weekend
    ∷ key (codes "holidays") place.Holidays
    ∷ []
keys_of Joint =
    key (codes "name") place.NewName
    ∷ key (codes "rule") place.Rule
    ∷ key (codes "parts") place.Parts
    ∷ []
