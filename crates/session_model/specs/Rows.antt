-- Sessions worked through by hand.
use Rattle.std.specs.Prelude.{◌≡◌, ℕ, ◌*◌, Bool, true, false, List, [], ◌∷◌, ◌++◌, codes, length, ℤ, pos, neg_ℤ, ◌*ℤ◌, ◌+ℤ◌, Some, None, Ok, Err}
use Rattle.fixed_amount.specs.Rounding.{closest}
use Rattle.desk_terms.specs.declared.terms.Terms.{Terms}
use Rattle.desk_terms.specs.declared.terms.Terms.TheVariants as terms
use Rattle.desk_terms.specs.declared.terms.HandleKind as handle
use Rattle.desk_terms.specs.declared.terms.Part.{Part}
use Rattle.curve_terms.specs.declared.terms.CurveStart.TheVariants.{Moving}
use Rattle.curve_terms.specs.declared.terms.Helper.{Helper}
use Rattle.holiday_calendars.specs.declared.bases.Base.TheVariants.{Null}
use Rattle.holiday_calendars.specs.declared.calendars.Calendar.TheVariants.{One}
use Rattle.day_number.specs.declared.tenors.Unit.TheVariants.{Days}
use Rattle.day_number.specs.declared.conventions.Convention.TheVariants.{Following}
use Rattle.year_parts.specs.declared.counters.Counter.TheVariants.{Act360}
use Rattle.flow_terms.specs.declared.flows.FlowTerm.TheVariants.{Known}
use Rattle.curve_points.specs.Curve as points
use Rattle.desk_terms.specs.declared.value.Input as input
use Rattle.desk_terms.specs.declared.value.Value.TheVariants.{Money, Curve}
use Rattle.desk_terms.specs.declared.cause.Cause.TheVariants.{TooLarge}
use Rattle.desk_terms.specs.Reading.{Outcome, Calc}
use Rattle.session_commands.specs.declared.command.Command.{Command}
use Rattle.session_commands.specs.declared.command.Command.TheVariants.{Quote, Sum, Difference, Handle, Stock, Composite, Member, Set, Unset, Link, Unlink, Engine, Today, Fixing, Freeze, Thaw, Recalc, Forward, Defer, Resume, Drop, Ask, Df, Watch, Register}
use Rattle.session_model.specs.declared.limits.TheConstants.{MOST_LIVE, MOST_NUMBERS}
use Rattle.watch_rounds.specs.declared.picker.Order.{Order}
use Rattle.watch_rounds.specs.declared.picker.Order.TheVariants.{First}
use Rattle.watch_rounds.specs.Order.{order_at, order_after}
use Rattle.session_model.specs.Standing.{Standing, start_of, start_with}
use Rattle.session_model.specs.Course.{Meaning, running}
use Rattle.session_model.specs.Rounds.{transcript, calls_of}

-- A stock is worth its quote, rounded from units of 10^-9 to units of 10^-6, and a composite the weighted sum of its
-- members. A curve and an implied curve fall from 1 on day 0 to 0.990099009901 on day 100. Flows are worth 1 for each
-- curve that they read.
abbrev pub weighted : List Part → List input.Input → ℤ
weighted [] inputs = pos 0
weighted (part ∷ parts) [] = pos 0
weighted (part ∷ parts) (input.TheVariants.Money amount ∷ inputs) = (part.weight *ℤ amount) +ℤ weighted parts inputs
weighted (part ∷ parts) (input.TheVariants.Rate rate ∷ inputs) = pos 0
weighted (part ∷ parts) (input.TheVariants.Curve curve ∷ inputs) = pos 0

abbrev pub rate_of : List input.Input → ℤ
rate_of [] = pos 0
rate_of (input.TheVariants.Rate rate ∷ inputs) = rate
rate_of (input.TheVariants.Money amount ∷ inputs) = pos 0
rate_of (input.TheVariants.Curve curve ∷ inputs) = pos 0

abbrev pub hundred_days : ℕ → points.Curve
hundred_days o =
    record { owner = o; reference = pos 0; nodes = record { day = pos 100; factor = pos 990_099_009_901 } ∷ [] }

abbrev pub hand_price : ℕ → Terms → List input.Input → Outcome
hand_price o (terms.Stock quote) inputs = Ok (Money (closest (rate_of inputs) 1000))
hand_price o (terms.Composite parts) inputs = Ok (Money (weighted parts inputs))
hand_price o (terms.Quote value) inputs = Err (TooLarge o)
hand_price o (terms.Derived minus first second) inputs = Err (TooLarge o)
hand_price o (terms.Handle kind target) inputs = Err (TooLarge o)
hand_price o (terms.Curve terms) inputs = Ok (Curve (hundred_days o))
hand_price o (terms.Implied curve reference) inputs = Ok (Curve (hundred_days o))
hand_price o (terms.Index terms fixings) inputs = Err (TooLarge o)
hand_price o (terms.Engine curve) inputs = Err (TooLarge o)
hand_price o (terms.Flows flows engine) inputs = Ok (Money (pos (1_000_000 * length inputs)))

abbrev pub by_hand : Calc
by_hand reading = hand_price reading.object reading.terms reading.inputs

abbrev pub orders_by_hand : Meaning Order
orders_by_hand = record { calc = by_hand; at = order_at; after = order_after }

-- what a session writes and computes where the first of the due watchers runs first
abbrev pub transcribed : Standing → List Command → List ℕ
transcribed p commands = transcript orders_by_hand (running First p) commands

abbrev pub called : Standing → List Command → List (ℕ × Bool)
called p commands = calls_of orders_by_hand (running First p) commands

-- a session of the names `today`, `q`, `s`, `z`, `a`, `b`, `t`, `k`, `l` and `d`, by the numbers 0 to 9
abbrev pub some_session : Standing
some_session = start_of (pos 0)
    (codes "today" ∷ codes "q" ∷ codes "s" ∷ codes "z" ∷ codes "a" ∷ codes "b" ∷ codes "t" ∷ codes "k" ∷ codes "l" ∷
    codes "d" ∷ []) []

abbrev pub written : List Command → List ℕ
written commands = transcribed some_session commands

abbrev pub computed : List Command → List (ℕ × Bool)
computed commands = called some_session commands

-- so many units of a quote
abbrev pub units : ℕ → ℤ
units n = pos (n * 1_000_000_000)

-- a stock `s` on the quote `q`
abbrev pub with_stock : ℤ → List Command → List Command
with_stock value commands = Quote 1 (Some value) ∷ Stock 2 1 ∷ commands

pub record AreRefused : Type 0 where
  pub limits : (MOST_LIVE ≡ 4096) × (MOST_NUMBERS ≡ 65_536)
  pub nothing : written [] ≡ []
  pub names : written (Set 3 (units 1) ∷ Quote 1 (Some (units 1)) ∷ Quote 1 (Some (units 2)) ∷ Ask 1 ∷ Drop 0 ∷ [])
      ≡ codes "refused set unknown z\nrefused quote taken q\nrefused ask kind q\nrefused drop kind today\n"
  pub places : written (Quote 1 (Some (units 1)) ∷ Stock 2 3 ∷ Stock 1 1 ∷ Stock 2 1 ∷ Set 2
      (units 2) ∷ Freeze 2 ∷ Ask 2 ∷ [])
      ≡ codes "refused stock unknown z\nrefused stock taken q\nrefused set kind s\n"
      ++ codes "s refused unpriced s 0\n"
  pub today : written (Quote 0
      (Some (units 1)) ∷ Ask 0 ∷ Stock 2
      0 ∷ []) ≡ codes "refused quote taken today\nrefused ask kind today\nrefused stock kind today\n"
  pub order : written (with_stock (units 1)
      (Sum 2 3 3 ∷ Sum 9 2 3 ∷ Sum 9 3 2 ∷ Member 3 1 (pos 1) ∷ Member 2 3 (pos 1) ∷ Composite 7 ∷ Member 7 1
      (pos 1) ∷ []))
      ≡ codes "refused sum taken s\nrefused sum kind s\nrefused sum unknown z\n"
      ++ codes "refused member unknown z\nrefused member kind s\nrefused member kind q\n"
  pub watchers : written (with_stock (units 1) (Watch 2 0 ∷ Register 2 1 ∷ Ask 2 ∷ []))
      ≡ codes "refused watch taken s\nrefused register kind s\ns 1.000000 fresh 1\n"

pub record AreUnset : Type 0 where
  pub set : written (Quote 1 None ∷ Stock 2 1 ∷ Ask 2 ∷ Set 1
      (units 2) ∷ Ask 2 ∷ []) ≡ codes "s refused unset q 0\ns 2.000000 fresh 1\n"
  pub unset_again : written
      (Quote 1 None ∷ Stock 2 1 ∷ Ask 2 ∷ Set 1 (units 1) ∷ Ask 2 ∷ Unset 1 ∷ Unset 1 ∷ Ask 2 ∷ [])
      ≡ codes "s refused unset q 0\ns 1.000000 fresh 1\ns refused unset q 0\n"
  pub equal_value : written
      (with_stock (pos 1_500_000_000)
      (Ask 2 ∷ Set 1 (pos 1_500_000_000) ∷ Ask 2 ∷ [])) ≡ codes "s 1.500000 fresh 1\ns 1.500000 fresh 0\n"
  pub halves_of_a_unit : written
      (with_stock (pos 500)
      (Ask 2 ∷ Set 1 (neg_ℤ (pos 500)) ∷ Ask 2 ∷ [])) ≡ codes "s 0.000001 fresh 1\ns -0.000001 fresh 1\n"

-- the composite `k` of two stocks, `s` twice and `t` taken away
abbrev pub two_stocks : List Command → List Command
two_stocks commands =
    Quote 4 (Some (pos 1_500_000_000)) ∷ Quote 5
    (Some (pos 500_000_000)) ∷ Stock 2 4 ∷ Stock 6 5 ∷ Composite 7 ∷ Member 7 2 (pos 2) ∷ Member 7 6
    (neg_ℤ (pos 1)) ∷ commands

pub record AreMembers : Type 0 where
  pub lines : written (two_stocks
      (Ask 7 ∷ Set 4 (units 2) ∷ Ask 7 ∷ [])) ≡ codes "k 2.500000 fresh 3\nk 3.500000 fresh 2\n"
  pub calls : computed (two_stocks (Ask 7 ∷ Set 4 (units 2) ∷ Ask 7 ∷ [])) ≡ (3, true) ∷ (4, true) ∷ (5, true) ∷ (
    3,
    true,
  ) ∷ (5, true) ∷ []
  pub weights : written
      (two_stocks (Ask 7 ∷ Member 7 2 (pos 2) ∷ Ask 7 ∷ Member 7 2 (pos 3) ∷ Ask 7 ∷ Member 7 6
      (pos 0) ∷ Ask 7 ∷ Member 7 6 (pos 0) ∷ Ask 7 ∷ []))
      ≡ codes "k 2.500000 fresh 3\nk 2.500000 fresh 0\nk 4.000000 fresh 1\nk 4.500000 fresh 1\nk 4.500000 fresh 0\n"

pub record AreDropped : Type 0 where
  pub derived : written
      (Quote 4 (Some (units 1)) ∷ Quote 5 (Some (pos 400_000_000)) ∷ Difference 9 4 5 ∷ Stock 2 9 ∷ Ask 2 ∷ Set 5
      (pos 500_000_000) ∷ Ask 2 ∷ Drop 9 ∷ Drop 2 ∷ Drop 9 ∷ Ask 2 ∷ [])
      ≡ codes "s 0.600000 fresh 1\ns 0.500000 fresh 1\nrefused drop inuse s\nrefused ask unknown s\n"
  pub cycle : written (Composite 7 ∷ Composite 8 ∷ Member 7 8 (pos 1) ∷ Member 8 7 (pos 1) ∷ Member 7 7
      (pos 1) ∷ Ask 7 ∷ Member 7 8 (pos 0) ∷ Ask 7 ∷ [])
      ≡ codes "refused member cycle\nrefused member cycle\nk 0.000000 fresh 2\nk 0.000000 fresh 1\n"
  pub weightless : written
      (Composite 7 ∷ Composite 8 ∷ Member 7 8 (pos 1) ∷ Member 8 7 (pos 0) ∷ Member 7 7
      (pos 0) ∷ Ask 8 ∷ []) ≡ codes "l 0.000000 fresh 1\n"
  pub least_user : written (two_stocks (Composite 8 ∷ Member 8 2 (pos 1) ∷ Drop 2 ∷ Drop 7 ∷ Drop 2 ∷ []))
      ≡ codes "refused drop inuse k\nrefused drop inuse l\n"
  pub name_again : written
      (with_stock (units 1)
      (Ask 2 ∷ Drop 2 ∷ Ask 2 ∷ Stock 2 1 ∷ Ask 2 ∷ [])) ≡ codes
      "s 1.000000 fresh 1\nrefused ask unknown s\ns 1.000000 fresh 1\n"
  pub number_anew : computed
      (with_stock (units 1) (Ask 2 ∷ Drop 2 ∷ Stock 2 1 ∷ Ask 2 ∷ [])) ≡ (2, true) ∷ (3, true) ∷ []

-- the stock `s` on the quote `q`, and the composite `k` of it
abbrev pub with_composite : ℤ → List Command → List Command
with_composite value commands = with_stock value (Composite 7 ∷ Member 7 2 (pos 1) ∷ commands)

pub record AreFrozen : Type 0 where
  pub last_value : written
      (with_stock (units 1) (Ask 2 ∷ Unset 1 ∷ Ask 2 ∷ Freeze 2 ∷ Ask 2 ∷ []))
      ≡ codes "s 1.000000 fresh 1\ns refused unset q 0\ns 1.000000 frozen 0\n"
  pub beneath : written
      (with_composite (units 2) (Ask 2 ∷ Freeze 2 ∷ Set 1 (units 3) ∷ Ask 2 ∷ Ask 7 ∷ Thaw 2 ∷ Ask 7 ∷ []))
      ≡ codes "s 2.000000 fresh 1\ns 2.000000 frozen 0\nk 2.000000 held 1\nk 3.000000 fresh 2\n"
  pub flags : written
      (with_stock (units 1)
      (Freeze 2 ∷ Ask 2 ∷ Recalc 2 ∷ Ask 2 ∷ Thaw 2 ∷ Thaw 2 ∷ Ask 2 ∷ Forward 2 true ∷ Set 1 (units 2) ∷ Ask 2 ∷ []))
      ≡ codes "s refused unpriced s 0\ns 1.000000 recalc 1\ns 1.000000 frozen 0\ns 1.000000 fresh 0\n"
      ++ codes "s 2.000000 fresh 1\n"
  pub kinds : written
      (with_stock (units 1)
      (Freeze 1 ∷ Thaw 3 ∷ Recalc 1 ∷ Recalc 3 ∷ Forward 1 true ∷ Forward 0 false ∷ Defer ∷ Recalc 3 ∷ []))
      ≡ codes "refused freeze kind q\nrefused thaw unknown z\nrefused recalc kind q\nrefused recalc unknown z\n"
      ++ codes "refused forward kind q\nrefused forward kind today\nrefused recalc unknown z\n"

pub record AreRecalculated : Type 0 where
  pub late : written
      (with_stock (units 1)
      (Ask 2 ∷ Freeze 2 ∷ Set 1 (units 4) ∷ Recalc 2 ∷ Ask 2 ∷ Defer ∷ Set 1 (units 5) ∷ Recalc 2 ∷ []))
      ≡ codes "s 1.000000 fresh 1\ns 4.000000 recalc 1\ns 4.000000 frozen 0\nrefused recalc deferred q\n"
  pub cause : written
      (with_stock (units 1) (Ask 2 ∷ Unset 1 ∷ Recalc 2 ∷ Ask 2 ∷ Freeze 2 ∷ Ask 2 ∷ []))
      ≡ codes "s 1.000000 fresh 1\ns refused unset q 0\ns refused unset q 0\ns 1.000000 frozen 0\n"
  pub own_source : written
      (with_stock (units 1) (Defer ∷ Recalc 2 ∷ Ask 2 ∷ Recalc 2 ∷ Resume ∷ Ask 2 ∷ []))
      ≡ codes "s 1.000000 recalc 1\ns 1.000000 late 0\nrefused recalc deferred s\ns 1.000000 fresh 0\n"
  pub reruns : computed
      (with_composite (units 1)
      (Recalc 7 ∷ Recalc 7 ∷ Recalc 2 ∷ Ask 7 ∷ [])) ≡ (2, true) ∷ (3, true) ∷ (3, true) ∷ (2, true) ∷ (3, true) ∷ []
  pub inputs : written
      (with_composite (units 1)
      (Recalc 7 ∷ Recalc 7 ∷ Recalc 2 ∷ Ask 7 ∷ Defer ∷ Set 1 (units 2) ∷ Recalc 7 ∷ Freeze 2 ∷ Recalc 7 ∷ Ask 7
      ∷ Resume ∷ Ask 7 ∷ []))
      ≡ codes "k 1.000000 recalc 2\nk 1.000000 recalc 1\ns 1.000000 recalc 1\nk 1.000000 fresh 1\n"
      ++ codes "refused recalc deferred q\nk 1.000000 recalc 1\nk 1.000000 late 0\nk 1.000000 held 0\n"

pub record AreDeferred : Type 0 where
  pub late : written
      (with_stock (units 1)
      (Stock 6 1 ∷ Ask 2 ∷ Defer ∷ Set 1 (units 2) ∷ Ask 2 ∷ Ask 6 ∷ Resume ∷ Ask 2 ∷ []))
      ≡ codes "s 1.000000 fresh 1\ns 1.000000 late 0\nt refused unpriced t 0\ns 2.000000 fresh 1\n"
  pub relinked : written
      (Quote 4 (Some (units 1)) ∷ Quote 5 (Some (units 5)) ∷ Quote 3 (Some (pos 0)) ∷ Handle 9 false ∷ Link 9 4
      ∷ Stock 2 9 ∷ Stock 6 4 ∷ Ask 2 ∷ Ask 6 ∷ Defer ∷ Set 4 (units 2) ∷ Set 3 (units 1) ∷ Link 9 5 ∷ Ask 2 ∷ Drop 3
      ∷ Resume ∷ Ask 2 ∷ Ask 6 ∷ [])
      ≡ codes "s 1.000000 fresh 1\nt 1.000000 fresh 1\ns 1.000000 late 0\ns 5.000000 fresh 1\nt 2.000000 fresh 1\n"
  pub frozen_between : written
      (with_composite (units 1)
      (Ask 7 ∷ Defer ∷ Set 1 (units 2) ∷ Ask 7 ∷ Freeze 2 ∷ Ask 7 ∷ Resume ∷ Ask 7 ∷ Thaw 2 ∷ Ask 7 ∷ []))
      ≡ codes "k 1.000000 fresh 2\nk 1.000000 late 0\nk 1.000000 held 0\nk 1.000000 held 0\nk 2.000000 fresh 2\n"

-- a session of the names `today`, `a`, `h`, `s`, `q` and `d`, by the numbers 0 to 5
abbrev pub some_handles : Standing
some_handles = start_of (pos 0)
    (codes "today" ∷ codes "a" ∷ codes "h" ∷ codes "s" ∷ codes "q" ∷ codes "d" ∷ []) []

abbrev pub linked : List Command → List ℕ
linked commands = transcribed some_handles commands

pub record AreLinked : Type 0 where
  pub links : linked
      (Quote 1 (Some (units 1)) ∷ Handle 2 false ∷ Stock 3 2 ∷ Ask 3 ∷ Link 2 1 ∷ Ask 3 ∷ Link 2 1 ∷ Ask 3 ∷ Unlink 2
      ∷ Ask 3 ∷ Drop 1 ∷ Link 2 1 ∷ [])
      ≡ codes "s refused empty h 0\ns 1.000000 fresh 1\ns 1.000000 fresh 0\ns refused empty h 0\n"
      ++ codes "refused link unknown a\n"
  pub cycle : linked
      (Quote 4 (Some (units 1)) ∷ Handle 2 false ∷ Sum 5 2 4 ∷ Link 2 5 ∷ Link 2 4 ∷ Stock 3 5 ∷ Ask 3 ∷ Drop 4 ∷ [])
      ≡ codes "refused link cycle\ns 2.000000 fresh 1\nrefused drop inuse h\n"
  pub kinds : linked
      (Quote 4 (Some (units 1)) ∷ Handle 2 false ∷ Handle 1 true ∷ Handle 2 true ∷ Link 4 2 ∷ Link 2 2 ∷ Link 2 1
      ∷ Link 1 4 ∷ Link 2 0 ∷ Unlink 4 ∷ Link 5 5 ∷ [])
      ≡ codes "refused handle taken h\nrefused link kind q\nrefused link kind h\nrefused link kind a\n"
      ++ codes "refused link kind q\nrefused link kind today\nrefused unlink kind q\nrefused link unknown d\n"

abbrev pub deposit : Helper
deposit = record {
  quote = 1;
  tenor = record { count = pos 100; unit = Days };
  every = None;
  conv = Following;
  eom = false;
  counter = Act360;
}

-- A session of the names and objects `today`, `q`, `c`, `x`, `e`, `b`, `h` and `i`, by the numbers 0 to 7: a quote, a curve
-- on it, an index and an engine over the curve, a bond that pays 100 on day 100, a handle of curves, and a curve implied
-- by what it stands for.
abbrev pub some_market : Standing
some_market = start_with (pos 0)
    (codes "today" ∷ codes "q" ∷ codes "c" ∷ codes "x" ∷ codes "e" ∷ codes "b" ∷ codes "h" ∷ codes "i" ∷ [])
    ((1, terms.Quote (Some (pos 36_000_000)))
    ∷ (2, terms.Curve (record { cal = One Null; start = Moving 0; helpers = deposit ∷ [] }))
    ∷ (
      3,
      terms.Index (record {
        cal = One Null;
        fixing_days = 0;
        tenor = record { count = pos 50; unit = Days };
        conv = Following;
        eom = false;
        counter = Act360;
        curve = 2;
      }) [],
    )
    ∷ (4, terms.Engine 2)
    ∷ (5, terms.Flows (record { flows = Known (pos 100) (pos 100_000_000) None ∷ []; index = None }) (Some 4))
    ∷ (6, terms.Handle handle.TheVariants.Curve None)
    ∷ (7, terms.Implied 6 (pos 10))
    ∷ []) []

abbrev pub priced : List Command → List ℕ
priced commands = transcribed some_market commands

pub record AreOfAMarket : Type 0 where
  pub factors : priced
      (Df 2 (pos 50) ∷ Df 2 (pos 50) ∷ Df 2 (pos 101) ∷ Df 2 (neg_ℤ (pos 1)) ∷ Set 1 (pos 40_000_000) ∷ Df 2 (pos 100)
      ∷ Unset 1 ∷ Df 2 (pos 50) ∷ [])
      ≡ codes "c 1970-02-20 0.995049504951 fresh 1\nc 1970-02-20 0.995049504951 fresh 0\n"
      ++ codes "c refused past c 1970-04-12 0\nc refused before c 1969-12-31 0\n"
      ++ codes "c 1970-04-11 0.990099009901 fresh 1\nc refused unset q 0\n"
  pub engines : priced
      (Ask 5 ∷ Engine 5 None ∷ Ask 5 ∷ Engine 5 (Some 4) ∷ Ask 5 ∷ Engine 5 (Some 4) ∷ Ask 5 ∷ Today (pos 100) ∷ Ask 5
      ∷ Today (pos 100) ∷ Ask 5 ∷ [])
      ≡ codes "b 1.000000 fresh 2\nb refused noengine b 0\nb 1.000000 fresh 1\nb 1.000000 fresh 1\n"
      ++ codes "b 0.000000 fresh 1\nb 0.000000 fresh 0\n"
  pub fixings : priced
      (Fixing 3 (pos 10) (pos 50_000_000) ∷ Fixing 3 (pos 10) (pos 60_000_000) ∷ Fixing 3 (pos 11) (pos 60_000_000)
      ∷ Fixing 3 (pos 11) (pos 50_000_000) ∷ [])
      ≡ codes "refused fixing exists 0.050000000\nrefused fixing exists 0.060000000\n"
  pub targets : priced
      (Ask 7 ∷ Link 6 2 ∷ Ask 7 ∷ Df 7 (pos 50) ∷ Link 6 7 ∷ Link 6 1 ∷ Drop 2 ∷ Unlink 6 ∷ Df 7 (pos 50) ∷ [])
      ≡ codes "i refused empty h 0\ni curve 1970-01-01 1.000000000000 1970-04-11 0.990099009901 fresh 2\n"
      ++ codes "i 1970-02-20 0.995049504951 fresh 0\nrefused link cycle\nrefused link kind q\nrefused drop inuse x\n"
      ++ codes "i refused empty h 0\n"
  pub kinds : priced
      (Engine 2 (Some 4) ∷ Engine 5 (Some 2) ∷ Fixing 2 (pos 1) (pos 1) ∷ Df 6 (pos 1) ∷ Df 5 (pos 1) ∷ Df 1 (pos 1)
      ∷ Ask 6 ∷ Ask 3 ∷ [])
      ≡ codes "refused engine kind c\nrefused engine kind c\nrefused fixing kind c\nrefused df kind h\n"
      ++ codes "refused df kind b\nrefused df kind q\nrefused ask kind h\nrefused ask kind x\n"
