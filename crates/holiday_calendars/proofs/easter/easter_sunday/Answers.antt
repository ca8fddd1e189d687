use Rattle.std.proofs.Common.{◌≡◌, ap, ◌∙◌, unsigned_abs, to_z-of_z, arith}
use Rattle.jiff_core.proofs.SignedLemmas.{signed_arith}
use Rattle.std.specs.Option.{IfSome}
use Rattle.holiday_calendars.specs.Easter.{easter_place, easter_day}
use Rattle.holiday_calendars.proofs.SundayLaw.{sunday_of}
use Rattle.holiday_calendars.proofs.easter.easter_sunday.Goals as goal

value_of : (c : goal.After-of) → IfSome c.of.result (λ day. day ≡ easter_day c.args.year)
unfolding easter_day
value_of c =
    let year = to_z-of_z c.ranges.year in
    let place : c.place-place.result ≡ easter_place (unsigned_abs c.args.year) = c.place-place.ensures.value ∙ ap (λ z. easter_place (unsigned_abs z)) year in
    let value = c.of.ensures.value in
    rw (← place) (rw year at value)

pub returns-clause-value : goal.returns-clause-value
returns-clause-value c = value_of c

pub returns-clause-sunday : goal.returns-clause-sunday
returns-clause-sunday c = sunday_of c.of.result c.args.year (omega (arith, signed_arith, to_z-of_z c.ranges.year)) (value_of c)
