-- Flows that are worked out by hand: of a swap and a forward rate agreement on an index of 50 days without holidays,
-- by Actual/360, over a curve from 2024-01-02 with the one node 0.990099009901 on 2024-04-11, and of a bond on TARGET.
use Rattle.std.specs.Prelude.{◌≡◌, ◌^◌, ℕ, Bool, false, List, [], ◌∷◌, Option, Some, None, Ok, Err, ℤ, pos, neg_ℤ}
use Rattle.std.specs.Borrow.{Bor}
use Rattle.day_number.specs.declared.conventions.Convention.TheVariants.{ModifiedFollowing}
use Rattle.day_number.specs.declared.tenors.Unit.TheVariants.{Years}
use Rattle.year_parts.specs.declared.counters.Counter.TheVariants.{Act360, Thirty360}
use Rattle.holiday_calendars.specs.declared.bases.Base.TheVariants.{Null, Target}
use Rattle.holiday_calendars.specs.declared.calendars.Calendar.{Calendar}
use Rattle.holiday_calendars.specs.declared.calendars.Calendar.TheVariants.{One}
use Rattle.holiday_calendars.specs.Calendar.{is_business_day}
use Rattle.schedule_rules.specs.declared.plans.Plan.{Plan}
use Rattle.schedule_rules.specs.declared.plans.Rule.TheVariants.{Backward}
use Rattle.schedule_rules.specs.Schedule.{schedule}
use Rattle.desk_terms.specs.declared.cause.Cause.TheVariants.{NoFixing, DateRange, TooLarge}
use Rattle.flow_terms.specs.declared.indexes.IndexTerms.{IndexTerms}
use Rattle.flow_terms.specs.declared.flows.FlowTerm.{FlowTerm}
use Rattle.flow_terms.specs.declared.flows.FlowTerm.TheVariants.{Known, Float, Forward}
use Rattle.rate_indexes.specs.Examples.{fifty_days, one_node}
use Rattle.cash_flow_legs.specs.declared.live_flows.Flow.{Flow}
use Rattle.cash_flow_legs.specs.Days.{fixing_day}
use Rattle.cash_flow_legs.specs.Legs.{each_period, fixed_flow, float_flow}
use Rattle.cash_flow_legs.specs.Singles.{redemption_flow, settlement_flow}
use Rattle.cash_flow_legs.specs.Amount.{IndexView, amount_of, settlement}
use Rattle.cash_flow_legs.specs.Live.{live_flows}

-- 1,000,000
abbrev pub million : ℤ
million = pos (10 ^ 12)

-- days without holidays
abbrev pub every_day : ℤ → Bool
every_day = is_business_day (One Null)

abbrev pub target : ℤ → Bool
target = is_business_day (One Target)

-- the index without stored rates
abbrev pub plain_index : IndexView
plain_index = record { object = 2; terms = fifty_days; fixings = [] }

-- the period from a day to a day
abbrev pub accruing : ℕ → ℕ → Option (ℤ × ℤ)
accruing start end = Some (pos start, pos end)

-- the swap's one period
abbrev pub fifty_day_period : List ℤ
fifty_day_period = pos 19_774 ∷ pos 19_824 ∷ []

-- the swap pays 3 %, so that leg's notional is below zero
abbrev pub paid_leg : List FlowTerm
paid_leg = Known (pos 19_824) (neg_ℤ (pos 4_166_666_667)) (accruing 19_774 19_824) ∷ []

abbrev pub received_leg : List FlowTerm
received_leg = Float (pos 19_824) million (pos 0) (pos 1_558_550) (pos 19_774) ∷ []

abbrev pub swap_flows : List FlowTerm
swap_flows =
    Known (pos 19_824) (neg_ℤ (pos 4_166_666_667)) (accruing 19_774 19_824) ∷ Float (pos 19_824) million (pos 0) (pos 1_558_550) (pos 19_774) ∷ []

-- the plan of the bond: 2024-01-04 to 2026-01-04 every year
abbrev pub bond_plan : Bor Calendar → Plan
bond_plan cal = record {
  start = pos 19_726;
  end = pos 20_457;
  tenor = record { count = pos 1; unit = Years };
  cal = cal;
  conv = ModifiedFollowing;
  end_conv = ModifiedFollowing;
  rule = Backward;
  eom = false;
  first = None;
  last = None;
}

-- the days of an unadjusted schedule: 2024-02-29, a Sunday, 2024-03-31, and 2024-04-30
abbrev pub month_ends : List ℤ
month_ends = pos 19_782 ∷ pos 19_813 ∷ pos 19_843 ∷ []

-- interest at the index's rate of 2024-02-21 and a spread, on a notional
abbrev pub spread_flow : ℤ → ℤ → FlowTerm
spread_flow notional spread = Float (pos 19_824) notional spread (pos 1_558_550) (pos 19_774)

-- a flow as it is paid
abbrev pub paid : ℤ → ℤ → Flow
paid day amount = record { paid = day; amount = amount }

-- an agreement of 3 % on 2024-02-21
abbrev pub three_percent : FlowTerm
three_percent = Forward (pos 19_774) million (pos 30_000_000) (pos 19_774)

-- an agreement whose period would end after the last day
abbrev pub too_late : FlowTerm
too_late = Forward (pos 84_005) million (pos 0) (pos 84_004)

abbrev pub stored_late : IndexView
stored_late = record plain_index { fixings = (pos 84_004, pos 0) ∷ [] }

-- the index on TARGET
abbrev pub target_index : ℕ → IndexTerms
target_index days = record fifty_days { cal = One Target; fixing_days = days }

-- the days are 2024-01-02 (19,724), 2024-02-21 (19,774), 2024-02-27 (19,780), 2024-03-27 to 2024-04-03 (19,809 to 19,816),
-- 2024-04-11 (19,824), 2024-04-30 (19,843), 2025-01-06 (20,094), 2026-01-05 (20,458) and 2199-12-31 (84,005)
pub record AreWorked : Type 0 where
  pub fixed : each_period (fixed_flow every_day 0 (neg_ℤ million) (pos 30_000_000) Act360) fifty_day_period
      ≡ Some paid_leg
  pub floating : each_period (float_flow every_day 0 million (pos 0) Act360 fifty_days) fifty_day_period
      ≡ Some received_leg
  pub swap : live_flows (Some plain_index) (pos 19_724) (pos 19_724) (Some one_node) 7 swap_flows
      ≡ Ok (paid (pos 19_824) (neg_ℤ (pos 4_166_666_667)) ∷ paid (pos 19_824) (pos 5_000_000_000) ∷ [])
  pub swap_paid : live_flows (Some plain_index) (pos 19_824) (pos 19_724) None 7 swap_flows ≡ Ok []
  pub swap_settled : live_flows (Some plain_index) (pos 19_724) (pos 19_824) None 7 swap_flows ≡ Ok []
  pub agreement : settlement_flow fifty_days (pos 19_774) million (pos 30_000_000) ≡ Some three_percent
  pub settled : amount_of (Some plain_index) (pos 19_724) (Some one_node) 7 three_percent ≡ Ok (pos 829_187_396)
  pub days : (cal : Bor Calendar) → schedule target (bond_plan cal) ≡ Ok (pos 19_726 ∷ pos 20_094 ∷ pos 20_458 ∷ [])
  pub coupons : each_period
      (fixed_flow target 0 million (pos 40_000_000) Thirty360)
      (pos 19_726 ∷ pos 20_094 ∷ pos 20_458 ∷ [])
      ≡ Some (Known (pos 20_094) (pos 40_222_222_222) (accruing 19_726 20_094)
      ∷ Known (pos 20_458) (pos 39_888_888_889) (accruing 20_094 20_458) ∷ [])
  pub redeemed : redemption_flow target 0 (pos 20_457) million ≡ Some (Known (pos 20_458) million None)
  pub redeemed_late : redemption_flow target 0 (pos 19_812) million ≡ Some (Known (pos 19_815) million None)
  pub redeemed_two_after : redemption_flow target 2 (pos 19_810) million ≡ Some (Known (pos 19_816) million None)
  pub redeemed_one_after_a_sunday : redemption_flow target 1 (pos 20_457) million ≡ Some (Known (pos 20_458) million None)
  pub redeemed_never : redemption_flow every_day 1 (pos 84_005) million ≡ None
  pub redeemed_on_the_last_day : redemption_flow every_day 0 (pos 84_005) million ≡ Some (Known (pos 84_005) million None)
  pub fixed_before : fixing_day (target_index 0) (pos 19_811) ≡ Some (pos 19_810)
  pub fixed_two_before : fixing_day (target_index 2) (pos 19_816) ≡ Some (pos 19_810)
  pub fixing_first : amount_of (Some plain_index) (pos 84_005) None 7 too_late ≡ Err (NoFixing 2 (pos 84_004))
  pub then_period : amount_of (Some stored_late) (pos 84_005) None 7 too_late ≡ Err (DateRange 2)
  pub no_divisor : settlement 7 million (pos 0) (pos 1_558_550) (neg_ℤ (pos 10_000_000_000)) ≡ Err (TooLarge 7)
  pub paid_after_a_holiday : each_period (fixed_flow target 0 million (pos 40_000_000) Act360) month_ends
      ≡ Some (Known (pos 19_815) (pos 3_444_444_444) (accruing 19_782 19_813)
      ∷ Known (pos 19_843) (pos 3_333_333_333) (accruing 19_813 19_843) ∷ [])
  pub floating_after_a_holiday : each_period (float_flow target 0 million (pos 10_000_000) Act360 (target_index 2)) month_ends
      ≡ Some (Float (pos 19_815) million (pos 10_000_000) (pos 966_301) (pos 19_780)
      ∷ Float (pos 19_843) million (pos 10_000_000) (pos 935_130) (pos 19_809) ∷ [])
  pub paid_two_after : each_period (fixed_flow target 2 million (pos 40_000_000) Act360) month_ends
      ≡ Some (Known (pos 19_816) (pos 3_444_444_444) (accruing 19_782 19_813)
      ∷ Known (pos 19_846) (pos 3_333_333_333) (accruing 19_813 19_843) ∷ [])
  pub floating_two_after : each_period (float_flow target 2 million (pos 10_000_000) Act360 (target_index 2)) month_ends
      ≡ Some (Float (pos 19_816) million (pos 10_000_000) (pos 966_301) (pos 19_780)
      ∷ Float (pos 19_846) million (pos 10_000_000) (pos 935_130) (pos 19_809) ∷ [])
  pub spread_added : amount_of (Some plain_index) (pos 19_724) (Some one_node) 7 (spread_flow million (pos 10_000_000))
      ≡ Ok (pos 6_388_888_889)
  pub spread_taken : amount_of (Some plain_index) (pos 19_724) (Some one_node) 7 (spread_flow million (neg_ℤ (pos 10_000_000)))
      ≡ Ok (pos 3_611_111_111)
  pub spread_paid : amount_of (Some plain_index) (pos 19_724) (Some one_node) 7 (spread_flow (neg_ℤ million) (pos 10_000_000))
      ≡ Ok (neg_ℤ (pos 6_388_888_889))
