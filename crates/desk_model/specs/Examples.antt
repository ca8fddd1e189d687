-- Small sessions that are worked through by hand: what an ask answers, how it is marked, and how often it calls the
-- bench.
use Rattle.std.specs.Prelude.{◌≡◌, ◌^◌, ℕ, true, false, List, [], ◌∷◌, length, ℤ, pos, neg_ℤ, ◌*ℤ◌, ◌+ℤ◌, Option, Some, None, Ok, Err}
use Rattle.desk_terms.specs.declared.terms.Terms.{Terms}
use Rattle.desk_terms.specs.declared.terms.Terms.TheVariants.{Quote, Derived, Handle, Curve, Implied, Index, Engine, Stock, Composite, Flows}
use Rattle.desk_terms.specs.declared.terms.Part.{Part}
use Rattle.desk_terms.specs.declared.terms.HandleKind as handle
use Rattle.curve_terms.specs.declared.terms.CurveStart.TheVariants.{Moving, Fixed}
use Rattle.curve_terms.specs.declared.terms.Helper.{Helper}
use Rattle.curve_terms.specs.declared.terms.CurveTerms.{CurveTerms}
use Rattle.holiday_calendars.specs.declared.bases.Base.TheVariants.{Null}
use Rattle.holiday_calendars.specs.declared.calendars.Calendar.TheVariants.{One}
use Rattle.day_number.specs.declared.tenors.Unit.TheVariants.{Days}
use Rattle.day_number.specs.declared.conventions.Convention.TheVariants.{Following}
use Rattle.year_parts.specs.declared.counters.Counter.TheVariants.{Act360}
use Rattle.flow_terms.specs.declared.flows.FlowTerm.TheVariants.{Known}
use Rattle.desk_terms.specs.declared.asked.Mark.{Mark}
use Rattle.desk_terms.specs.declared.asked.Mark.TheVariants.{Fresh, Frozen}
use Rattle.desk_terms.specs.declared.value.Value.TheVariants.{Money}
use Rattle.desk_terms.specs.declared.value.Input as input
use Rattle.desk_terms.specs.declared.cause.Cause.TheVariants.{Unset, Empty, NoEngine, TooLarge}
use Rattle.desk_terms.specs.Reading.{Outcome, Calc}
use Rattle.desk_model.specs.Market.{edges, least_user, live_count}
use Rattle.desk_model.specs.State.{State, mark_of, shows}
use Rattle.desk_model.specs.Links.{reaches}
use Rattle.desk_model.specs.Visit.{log_of, runs, asked}
use Rattle.desk_model.specs.Effect.{start, made, quote_set, relinked, engine_set, member_set, today_set, dropped, frozen_set}

-- A bench: a stock is worth its quote, a composite the weighted sum of its members, a curve the first of its rates, and
-- flows the first of their curves, or nothing where they are read without.
abbrev pub weighted : List Part → List input.Input → ℤ
weighted [] inputs = pos 0
weighted (part ∷ parts) [] = pos 0
weighted (part ∷ parts) (input.TheVariants.Money amount ∷ inputs) = part.weight *ℤ amount +ℤ weighted parts inputs
weighted (part ∷ parts) (input.TheVariants.Rate rate ∷ inputs) = pos 0
weighted (part ∷ parts) (input.TheVariants.Curve curve ∷ inputs) = pos 0

abbrev pub first_of : List input.Input → ℤ
first_of [] = pos 0
first_of (input.TheVariants.Rate rate ∷ inputs) = rate
first_of (input.TheVariants.Money amount ∷ inputs) = amount
first_of (input.TheVariants.Curve curve ∷ inputs) = pos 0

abbrev pub plain_price : ℕ → Terms → List input.Input → Outcome
plain_price o (Quote value) inputs = Err (TooLarge o)
plain_price o (Derived minus first second) inputs = Err (TooLarge o)
plain_price o (Handle kind target) inputs = Err (TooLarge o)
plain_price o (Curve terms) inputs = Ok (Money (first_of inputs))
plain_price o (Implied curve reference) inputs = Ok (Money (first_of inputs))
plain_price o (Index terms fixings) inputs = Err (TooLarge o)
plain_price o (Engine curve) inputs = Err (TooLarge o)
plain_price o (Stock quote) inputs = Ok (Money (first_of inputs))
plain_price o (Composite parts) inputs = Ok (Money (weighted parts inputs))
plain_price o (Flows flows engine) inputs = Ok (Money (first_of inputs))

abbrev pub plain : Calc
plain reading = plain_price reading.object reading.terms reading.inputs

-- one that refuses whatever it reads
abbrev pub nothing : Calc
nothing reading = Err (TooLarge reading.object)

-- what an ask shows: the answer, its mark and the number of calls
pub record Line : Type 0 where
  pub answer : Outcome
  pub mark : Mark
  pub number : ℕ

abbrev pub line : Calc → ℕ → State → Line
line calc o state = record { answer = shows calc state o; mark = mark_of state o; number = length (runs calc state o) }

abbrev pub shown : ℤ → Mark → ℕ → Line
shown amount mark number = record { answer = Ok (Money amount); mark = mark; number = number }

abbrev pub ask : ℕ → State → State
ask o state = asked plain o state

abbrev pub day_0 : State
day_0 = start (pos 0)

abbrev pub quote : ℤ → State → State
quote rate state = made (Quote (Some (pos 0 +ℤ rate))) state

-- A quote, 1, without a value, and a stock on it, 2; the quote is set, the stock is asked for, the quote is unset,
-- and the stock is frozen.
abbrev pub unset_quote : State
unset_quote = made (Stock 1) (made (Quote None) day_0)

abbrev pub then_set : State
then_set = quote_set 1 (Some (pos 2)) (ask 2 unset_quote)

abbrev pub then_unset : State
then_unset = quote_set 1 None (ask 2 then_set)

pub record AreQuotes : Type 0 where
  pub unset : line plain 2 unset_quote ≡ record { answer = Err (Unset 1); mark = Fresh; number = 0 }
  pub set : line plain 2 then_set ≡ shown (pos 2) Fresh 1
  pub again : line plain 2 (ask 2 then_set) ≡ shown (pos 2) Fresh 0
  pub same_value : quote_set 1 (Some (pos 2)) (ask 2 then_set) ≡ ask 2 then_set
  pub unset_again : line plain 2 then_unset ≡ record { answer = Err (Unset 1); mark = Fresh; number = 0 }
  pub frozen : line plain 2 (frozen_set 2 then_unset) ≡ shown (pos 2) Frozen 0
  pub refused_by_the_bench : log_of (runs nothing then_set 2) ≡ (2, false) ∷ []
  pub refused_stores_nothing : asked nothing 2 then_set ≡ then_set

-- Two quotes, 1 and 2, a stock on each, 3 and 4, and a composite of twice the first less the second, 5; the first quote
-- moves.
abbrev pub composite : State
composite = member_set 5 4 (neg_ℤ (pos 1)) (member_set 5 3 (pos 2) (made (Composite []) (made (Stock 2) (made (Stock 1) (quote (pos 5) (quote (pos 15) day_0))))))

abbrev pub moved : State
moved = quote_set 1 (Some (pos 20)) (ask 5 composite)

pub record AreMembers : Type 0 where
  pub value : line plain 5 composite ≡ shown (pos 25) Fresh 3
  pub calls : log_of (runs plain composite 5) ≡ (3, true) ∷ (4, true) ∷ (5, true) ∷ []
  pub moved_value : line plain 5 moved ≡ shown (pos 35) Fresh 2
  pub moved_calls : log_of (runs plain moved 5) ≡ (3, true) ∷ (5, true) ∷ []
  pub without_a_member : line plain 5 (member_set 5 4 (pos 0) moved) ≡ shown (pos 40) Fresh 2
  pub live : live_count (dropped 5 moved).market ≡ 5

-- A quote, 1, a handle, 2, a sum of both, 3, and a stock on the sum, 4. The sum reaches the handle, which is thus not
-- linked to it.
abbrev pub handle_and_sum : State
handle_and_sum = made (Derived false 2 1) (made (Handle handle.TheVariants.Quote None) (quote (pos 1) day_0))

abbrev pub linked : State
linked = made (Stock 3) (relinked 2 (Some 1) handle_and_sum)

pub record AreHandles : Type 0 where
  pub empty : line plain 4 (made (Stock 3) handle_and_sum) ≡ record { answer = Err (Empty 2); mark = Fresh; number = 0 }
  pub closes_a_cycle : reaches handle_and_sum.market 3 2 ≡ true
  pub closes_none : reaches handle_and_sum.market 1 2 ≡ false
  pub value : line plain 4 linked ≡ shown (pos 2) Fresh 1
  pub user : least_user linked.market 1 ≡ Some 2
  pub no_user : least_user linked.market 4 ≡ None

-- Two quotes, 1 and 2, their difference, 3, a stock on it, 4, and on the first quote, 5, a composite of both, 6, and
-- one of that and of the first stock, 7.
abbrev pub part_of : ℤ → ℕ → Part
part_of weight member = record { weight = weight; member = member }

abbrev pub diamond : Option ℤ → State
diamond second =
    made (Composite (part_of (pos 1) 6 ∷ part_of (pos 1) 4 ∷ [])) (made (Composite (part_of (pos 2) 4 ∷ part_of (neg_ℤ (pos 1)) 5 ∷ []))
    (made (Stock 1) (made (Stock 3) (made (Derived true 1 2) (made (Quote second) (quote (pos 1000) day_0))))))

pub record AreShared : Type 0 where
  pub each_once : log_of (runs plain (diamond (Some (pos 400))) 7) ≡ (4, true) ∷ (5, true) ∷ (6, true) ∷ (7, true) ∷ []
  pub value : line plain 7 (diamond (Some (pos 400))) ≡ shown (pos 800) Fresh 4
  pub refused_first : line plain 7 (diamond None) ≡ record { answer = Err (Unset 2); mark = Fresh; number = 0 }
  pub too_large : line plain 4 (diamond (Some (neg_ℤ (pos (10 ^ 18))))) ≡ record { answer = Err (TooLarge 3); mark = Fresh; number = 0 }
  pub through_the_difference : log_of (runs plain (quote_set 2 (Some (pos 500)) (ask 7 (diamond (Some (pos 400))))) 7) ≡ (4, true) ∷ (6, true) ∷ (7, true) ∷ []

-- a deposit of 30 days on the quote 1, and a curve over helpers
abbrev pub deposit : Helper
deposit = record { quote = 1; tenor = record { count = pos 30; unit = Days }; every = None; conv = Following; eom = false; counter = Act360 }

abbrev pub curve_of : List Helper → CurveTerms
curve_of helpers = record { cal = One Null; start = Moving 0; helpers = helpers }

-- A quote, 1, a curve with two helpers on it, 2, an engine on the curve, 3, and a bond that is paid on day 100, 4.
abbrev pub bond : State
bond =
    made (Flows (record { flows = Known (pos 100) (pos 7) None ∷ []; index = None }) (Some 3))
    (made (Engine 2) (made (Curve (curve_of (deposit ∷ deposit ∷ []))) (quote (pos 9) day_0)))

-- The same over a curve that starts on day 5 whatever the evaluation date, which then moves.
abbrev pub fixed_bond : State
fixed_bond =
    made (Flows (record { flows = Known (pos 100) (pos 7) None ∷ []; index = None }) (Some 3))
    (made (Engine 2) (made (Curve (record (curve_of (deposit ∷ deposit ∷ [])) { start = Fixed (pos 5) })) (quote (pos 9) day_0)))

abbrev pub day_moved : State → State
day_moved state = today_set (pos 50) (ask 4 state)

abbrev pub without_engine : State
without_engine = engine_set 4 None (ask 4 bond)

abbrev pub expired : State
expired = today_set (pos 100) (engine_set 4 (Some 3) without_engine)

abbrev pub moved_beneath : State
moved_beneath = quote_set 1 (Some (pos 8)) (ask 4 expired)

abbrev pub back : State
back = today_set (pos 0) (ask 4 moved_beneath)

pub record AreFlows : Type 0 where
  pub each_edge_once : edges bond.market 2 ≡ 0 ∷ 1 ∷ []
  pub edges_of_flows : edges bond.market 4 ≡ 0 ∷ 3 ∷ []
  pub value : line plain 4 bond ≡ shown (pos 9) Fresh 2
  pub moves_with_the_day : line plain 2 (day_moved bond) ≡ shown (pos 9) Fresh 1
  pub bond_above_a_moved_curve : line plain 4 (day_moved bond) ≡ shown (pos 9) Fresh 2
  pub no_edge_to_the_day : edges fixed_bond.market 2 ≡ 1 ∷ []
  pub fixed_value : line plain 4 fixed_bond ≡ shown (pos 9) Fresh 2
  pub stays_current : line plain 2 (day_moved fixed_bond) ≡ shown (pos 9) Fresh 0
  pub bond_above_a_fixed_curve : line plain 4 (day_moved fixed_bond) ≡ shown (pos 9) Fresh 1
  pub no_engine : line plain 4 without_engine ≡ record { answer = Err (NoEngine 4); mark = Fresh; number = 0 }
  pub nothing_due : line plain 4 expired ≡ shown (pos 0) Fresh 1
  pub current_above : line plain 4 moved_beneath ≡ shown (pos 0) Fresh 0
  pub not_beneath : line plain 2 moved_beneath ≡ shown (pos 8) Fresh 1
  pub due_again : line plain 4 back ≡ shown (pos 8) Fresh 2
