-- Each field of an instrument is that of its key: rows, where a table says at each word what it says.
use Rattle.std.proofs.Common.{◌≡◌, refl, map, ℕ, ℤ, pos, List, [], Option, Some, None, Result, Ok, false}
use Rattle.std.specs.Prelude.{codes, unwrap_or}
use Rattle.day_number.specs.declared.conventions.Convention.TheVariants.{ModifiedFollowing}
use Rattle.schedule_rules.specs.declared.plans.Rule.TheVariants.{Backward}
use Rattle.flow_terms.specs.declared.flows.FlowTerm.{FlowTerm}
use Rattle.holiday_calendars.specs.declared.calendars.Calendar.{Calendar}
use Rattle.market_tables.specs.declared.fault.MarketKind.{MarketKind}
use Rattle.market_tables.specs.declared.fault.MarketKind.TheVariants as fault
use Rattle.market_tables.specs.Given.{◌>>=◌}
use Rattle.market_tables.specs.Table.{Key}
use Rattle.market_tables.specs.Values.{or_fault}
use Rattle.market_fields.specs.declared.field.Field.{Field}
use Rattle.market_fields.specs.declared.keys.ObjectKind.TheVariants.{Bond, Swap, Fra}
use Rattle.market_fields.specs.Keys.{keys_of}
use Rattle.market_fields.specs.Limited.{signed, opposite}
use Rattle.market_fields.specs.Earlier.{Earlier, index_terms}
use Rattle.market_fields.specs.Field.{must, object_in, day_in, tenor_in, rule_in, convention_in, flag_in, counter_in, notional_in, rate_in, sign_in, calendar_in}
use Rattle.market_instruments.specs.declared.schedules.Rules.{Rules}
use Rattle.market_instruments.specs.Schedules.{Span, span_of, rules_of, dates_of}
use Rattle.market_instruments.specs.Appended.{lag_in, fixed_behind, float_behind, redeemed, settled}
use Rattle.market_instruments.specs.Limits.{instrument_of}
use Rattle.market_instruments.specs.Bonds.{bond_dates, fixed_coupons, float_coupons, coupons_by, coupons_of, bond_of}
use Rattle.market_instruments.specs.Swaps.{fixed_side, float_side, swap_of}
use Rattle.market_instruments.specs.Forwards.{settlement_of, forward_of}

-- the fields of a table by what is said at the words of its keys
abbrev saying : {W P F : Type 0} → List (Key W P) → (List ℕ → Option F) → List (Option F)
saying keys said = map (λ k. said k.word) keys

module _ (said : List ℕ → Option Field) where
  -- the start, the end and the calendar of a bond or a swap
  abbrev pub span_said : Result Span MarketKind
  span_said =
      must (day_in (said (codes "start"))) >>= (λ start. must (day_in (said (codes "end"))) >>= (λ end.
      must (calendar_in (said (codes "calendar"))) >>= (λ cal. Ok (record { start = start; end = end; cal = cal }))))

  -- the rules of a bond or a swap
  abbrev pub rules_said : Result Rules MarketKind
  rules_said =
      rule_in (said (codes "rule")) >>= (λ rule. convention_in (said (codes "convention")) >>= (λ conv.
      convention_in (said (codes "end_convention")) >>= (λ end_conv. flag_in (said (codes "month_end")) >>= (λ eom.
      Ok (record {
        rule = unwrap_or rule Backward;
        conv = unwrap_or conv ModifiedFollowing;
        end_conv = unwrap_or end_conv (unwrap_or conv ModifiedFollowing);
        eom = unwrap_or eom false;
      })))))

  abbrev bond : List (Option Field)
  bond = saying (keys_of Bond) said

  abbrev swap : List (Option Field)
  swap = saying (keys_of Swap) said

  abbrev agreement : List (Option Field)
  agreement = saying (keys_of Fra) said

  pub bond_dates_by_keys : (span : Span) → bond_dates bond span
      ≡ must (tenor_in (said (codes "every"))) >>= (λ every. rules_said >>= (λ rules.
      day_in (said (codes "first")) >>= (λ first. day_in (said (codes "last")) >>= (λ last. dates_of span rules every first last))))
  bond_dates_by_keys span = refl

  pub fixed_coupons_by_keys : (span : Span) (lag : ℕ) (n rate : ℤ) (flows : List FlowTerm) → fixed_coupons bond span lag n rate flows
      ≡ bond_dates bond span >>= (λ days. must (counter_in (said (codes "counter"))) >>= (λ counter.
      fixed_behind flows span.cal lag n rate counter days))
  fixed_coupons_by_keys span lag n rate flows = refl

  pub float_coupons_by_keys : (e : Earlier) (span : Span) (lag : ℕ) (n : ℤ) (index : ℕ) (flows : List FlowTerm) → float_coupons e bond span lag n index flows
      ≡ bond_dates bond span >>= (λ days. must (counter_in (said (codes "counter"))) >>= (λ counter.
      rate_in (said (codes "spread")) >>= (λ spread. index_terms e index >>= (λ terms.
      float_behind flows span.cal lag n (unwrap_or spread (pos 0)) counter terms days))))
  float_coupons_by_keys e span lag n index flows = refl

  pub bond_by_keys : (e : Earlier) → bond_of e bond
      ≡ must (notional_in (said (codes "notional"))) >>= (λ n. span_said >>= (λ span.
      object_in (said (codes "engine")) >>= (λ engine. lag_in (said (codes "payment_lag")) >>= (λ lag. object_in (said (codes "index")) >>= (λ index.
      (rate_in (said (codes "coupon")) >>= (λ coupon. coupons_by e bond span lag n [] coupon index)) >>= (λ coupons.
      redeemed coupons span.cal lag span.end n >>= (λ flows. instrument_of flows index engine)))))))
  bond_by_keys e = refl

  pub fixed_side_by_keys : (cal : Calendar) (lag : ℕ) (days : List ℤ) (flows : List FlowTerm) → fixed_side swap cal lag days flows
      ≡ must (notional_in (said (codes "notional"))) >>= (λ n. must (sign_in (said (codes "side"))) >>= (λ sign.
      must (rate_in (said (codes "fixed_rate"))) >>= (λ rate. must (counter_in (said (codes "fixed_counter"))) >>= (λ counter.
      fixed_behind flows cal lag (signed sign n) rate counter days))))
  fixed_side_by_keys cal lag days flows = refl

  pub float_side_by_keys : (e : Earlier) (cal : Calendar) (lag : ℕ) (days : List ℤ) (index : Option ℕ) (flows : List FlowTerm) → float_side e swap cal lag days index flows
      ≡ must (notional_in (said (codes "notional"))) >>= (λ n. must (sign_in (said (codes "side"))) >>= (λ sign.
      or_fault fault.Key index >>= (λ named. rate_in (said (codes "spread")) >>= (λ spread.
      must (counter_in (said (codes "float_counter"))) >>= (λ counter. index_terms e named >>= (λ terms.
      float_behind flows cal lag (signed (opposite sign) n) (unwrap_or spread (pos 0)) counter terms days))))))
  float_side_by_keys e cal lag days index flows = refl

  pub swap_by_keys : (e : Earlier) → swap_of e swap
      ≡ span_said >>= (λ span. object_in (said (codes "engine")) >>= (λ engine. lag_in (said (codes "payment_lag")) >>= (λ lag. rules_said >>= (λ rules.
      must (tenor_in (said (codes "fixed_every"))) >>= (λ fixed_every. object_in (said (codes "index")) >>= (λ index.
      must (tenor_in (said (codes "float_every"))) >>= (λ float_every.
      dates_of span rules fixed_every None None >>= (λ fixed_dates. dates_of span rules float_every None None >>= (λ float_dates.
      fixed_side swap span.cal lag fixed_dates [] >>= (λ fixed. float_side e swap span.cal lag float_dates index fixed >>= (λ flows.
      instrument_of flows index engine)))))))))))
  swap_by_keys e = refl

  pub settlement_by_keys : (e : Earlier) (index : ℕ) (flows : List FlowTerm) → settlement_of e agreement index flows
      ≡ must (notional_in (said (codes "notional"))) >>= (λ n. must (sign_in (said (codes "side"))) >>= (λ sign.
      must (day_in (said (codes "start"))) >>= (λ start. must (rate_in (said (codes "strike"))) >>= (λ strike.
      index_terms e index >>= (λ terms. settled flows terms start (signed sign n) strike)))))
  settlement_by_keys e index flows = refl

  pub forward_by_keys : (e : Earlier) → forward_of e agreement
      ≡ must (object_in (said (codes "index"))) >>= (λ index. object_in (said (codes "engine")) >>= (λ engine.
      settlement_of e agreement index [] >>= (λ flows. instrument_of flows (Some index) engine)))
  forward_by_keys e = refl
