-- Answers over a small market, with the figures of an independent model: a curve on a quote, a bond, a swap and an agreement
-- discounted by it, a curve seen from 2024-02-21, and a composite of the bond and of a stock.
use Rattle.std.specs.Prelude.{◌≡◌, ℕ, true, false, List, [], ◌∷◌, ◌++◌, codes, ℤ, pos, ◌+ℤ◌, neg_ℤ, Option, Some, None, Ok}
use Rattle.day_number.specs.declared.conventions.Convention.TheVariants.{Following}
use Rattle.day_number.specs.declared.tenors.Unit.TheVariants.{Days}
use Rattle.year_parts.specs.declared.counters.Counter.TheVariants.{Act360}
use Rattle.holiday_calendars.specs.declared.bases.Base.TheVariants.{Null}
use Rattle.holiday_calendars.specs.declared.calendars.Calendar.TheVariants.{One}
use Rattle.curve_terms.specs.declared.terms.CurveStart.TheVariants.{Moving}
use Rattle.curve_terms.specs.declared.terms.Helper.{Helper}
use Rattle.desk_terms.specs.declared.terms.HandleKind as handle
use Rattle.desk_terms.specs.declared.terms.Part.{Part}
use Rattle.desk_terms.specs.declared.terms.Terms.{Terms}
use Rattle.desk_terms.specs.declared.terms.Terms.TheVariants as terms
use Rattle.desk_terms.specs.declared.value.Value.TheVariants.{Curve}
use Rattle.desk_terms.specs.Reading.{Reading, Outcome, Calc}
use Rattle.flow_terms.specs.declared.flows.FlowTerm.{FlowTerm}
use Rattle.flow_terms.specs.declared.flows.FlowTerm.TheVariants.{Known, Forward}
use Rattle.rate_indexes.specs.Examples.{fifty_days}
use Rattle.cash_flow_legs.specs.Examples.{million, swap_flows}
use Rattle.desk_bench.specs.Pricing.{desk_calc}
use Rattle.desk_model.specs.State.{State}
use Rattle.desk_model.specs.Effect.{quote_set, relinked, engine_set, today_set, fixing_added, frozen_set, deferred}
use Rattle.desk_model.specs.Visit.{asked}
use Rattle.session_model.specs.Standing.{Standing, start_with}
use Rattle.why_model.specs.Answer.{why_text}

-- a curve goes from 1 on the evaluation date to 0.990099009901 a hundred days later: what its deposit at 3.6 % comes to
abbrev pub curve_on : ℕ → Option ℤ → Outcome
curve_on o None = desk_calc (record { object = o; terms = terms.Composite []; inputs = []; today = None; index = None })
curve_on o (Some today) = Ok (Curve (record {
  owner = o;
  reference = today;
  nodes = record { day = today +ℤ pos 100; factor = pos 990_099_009_901 } ∷ [];
}))

-- all else is worth what the benches compute
abbrev pub price_over : Terms → Reading → Outcome
price_over (terms.Curve terms) reading = curve_on reading.object reading.today
price_over (terms.Quote value) reading = desk_calc reading
price_over (terms.Derived minus first second) reading = desk_calc reading
price_over (terms.Handle kind target) reading = desk_calc reading
price_over (terms.Implied curve reference) reading = desk_calc reading
price_over (terms.Index terms fixings) reading = desk_calc reading
price_over (terms.Engine curve) reading = desk_calc reading
price_over (terms.Stock quote) reading = desk_calc reading
price_over (terms.Composite parts) reading = desk_calc reading
price_over (terms.Flows flows engine) reading = desk_calc reading

abbrev pub with_curves : Calc
with_curves reading = price_over reading.terms reading

abbrev pub deposit : Helper
deposit = record {
  quote = 1;
  tenor = record { count = pos 100; unit = Days };
  every = None;
  conv = Following;
  eom = false;
  counter = Act360;
}

abbrev pub part_of : ℤ → ℕ → Part
part_of weight member = record { weight = weight; member = member }

abbrev pub discounted : List FlowTerm → Option ℕ → Terms
discounted flows index = terms.Flows (record { flows = flows; index = index }) (Some 11)

-- the names and objects by the numbers 0 to 15; `r` is unset
abbrev pub small_market : Standing
small_market = start_with (pos 19_724)
    (codes "today" ∷ codes "q" ∷ codes "p" ∷ codes "r" ∷ codes "d" ∷ codes "u" ∷ codes "s" ∷ codes "c" ∷ codes "h"
    ∷ codes "i" ∷ codes "x" ∷ codes "e" ∷ codes "b" ∷ codes "w" ∷ codes "f" ∷ codes "k" ∷ [])
    ((1, terms.Quote (Some (pos 36_000_000)))
    ∷ (2, terms.Quote (Some (pos 1_500_000_000)))
    ∷ (3, terms.Quote None)
    ∷ (4, terms.Derived true 2 1)
    ∷ (5, terms.Handle handle.TheVariants.Quote (Some 4))
    ∷ (6, terms.Stock 5)
    ∷ (7, terms.Curve (record { cal = One Null; start = Moving 0; helpers = deposit ∷ [] }))
    ∷ (8, terms.Handle handle.TheVariants.Curve (Some 7))
    ∷ (9, terms.Implied 8 (pos 19_774))
    ∷ (10, terms.Index (record fifty_days { curve = 8 }) [])
    ∷ (11, terms.Engine 7)
    ∷ (12, discounted (Known (pos 19_824) (pos 100_000_000) None ∷ []) None)
    ∷ (13, discounted swap_flows (Some 10))
    ∷ (14, discounted (Forward (pos 19_774) million (pos 30_000_000) (pos 19_774) ∷ []) (Some 10))
    ∷ (15, terms.Composite (part_of (pos 2) 12 ∷ part_of (neg_ℤ (pos 1)) 6 ∷ []))
    ∷ []) []

-- the answer for a name, after something was done to the objects
abbrev pub answer_after : (State → State) → List ℕ → List ℕ
answer_after change name = why_text with_curves (record small_market { state = change small_market.state }) name

abbrev pub answer : List ℕ → List ℕ
answer name = answer_after (λ s. s) name

-- the object was asked before
abbrev pub after_an_ask : ℕ → State → State
after_an_ask o s = asked with_curves o s

-- the curve and what it stands on
abbrev pub curve_lines : List ℕ
curve_lines = codes "c curve fresh 2024-01-02\nc node 2024-04-11 0.990099009901 q 0.036000000\nq quote 0.036000000\n"

-- the bond and what it stands on
abbrev pub bond_lines : List ℕ
bond_lines =
    codes "b flows fresh 99.009901\nb flow 2024-04-11 100.000000 0.990099009901 99.009900990100000000\n"
    ++ codes "b sum 99.009900990100000000\ntoday day 2024-01-02\ne engine c\n" ++ curve_lines

-- the index of the swap and of the agreement, behind the curve
abbrev pub index_lines : List ℕ
index_lines = codes "today day 2024-01-02\ne engine c\n" ++ curve_lines ++ codes "x index h\nh handle c\n"

pub record AreAnswered : Type 0 where
  pub bond : answer (codes "b") ≡ codes "b 99.009901 fresh 2\n" ++ bond_lines
  pub swap : answer (codes "w") ≡
      codes "w 825.082508 fresh 2\nw flows fresh 825.082508\n"
      ++ codes "w flow 2024-04-11 -4166.666667 0.990099009901 -4125.412541584199669967\n"
      ++ codes "w flow 2024-04-11 5000.000000 0.990099009901 4950.495049505000000000 fixing 2024-02-21 0.036000000\n"
      ++ codes "w sum 825.082507920800330033\n" ++ index_lines
  pub agreement : answer (codes "f") ≡
      codes "f 825.082508 fresh 2\nf flows fresh 825.082508\n"
      ++ codes "f flow 2024-02-21 829.187396 0.995049504951 825.082507901408797596 fixing 2024-02-21 0.036000000\n"
      ++ codes "f sum 825.082507901408797596\n" ++ index_lines
  pub composite : answer (codes "k") ≡
      codes "k 196.555802 fresh 4\nk composite fresh 196.555802\nk part 2 b 99.009901 198.019802\n"
      ++ codes "k part -1 s 1.464000 -1.464000\n" ++ bond_lines
      ++ codes "s stock fresh 1.464000\nu handle d\nd difference p q\np quote 1.500000000\n"
  pub seen : answer (codes "i") ≡
      codes "i curve 2024-02-21 1.000000000000 2024-04-11 0.995024875621 fresh 2\ni implied fresh 2024-02-21\n"
      ++ codes "i node 2024-04-11 0.995024875621\nh handle c\nc curve fresh 2024-01-02\n"
      ++ codes "c node 2024-04-11 0.990099009901 q 0.036000000\ntoday day 2024-01-02\nq quote 0.036000000\n"
  pub unknown : answer (codes "zz") ≡ codes "refused why unknown zz\n"
  pub kind : answer (codes "q") ≡ codes "refused why kind q\n"

pub record AreAnsweredLater : Type 0 where
  pub frozen : answer_after (λ s. quote_set 2 (Some (pos 2_000_000_000)) (frozen_set 6 (after_an_ask 15 s))) (codes "k") ≡
      codes "k 196.555802 held 0\nk composite held 196.555802\nk part 2 b 99.009901 198.019802\n"
      ++ codes "k part -1 s 1.464000 -1.464000\n" ++ bond_lines ++ codes "s stock frozen 1.464000\n"
  pub late : answer_after (λ s. quote_set 1 (Some (pos 40_000_000)) (deferred (after_an_ask 12 s))) (codes "k") ≡
      codes "k refused unpriced k 0\nk composite late refused unpriced k\nk source q\n"
  pub stored : answer_after (λ s. fixing_added 10 (pos 19_774) (pos 50_000_000) (today_set (pos 19_774) s)) (codes "w") ≡
      codes "w 2764.026402 fresh 2\nw flows fresh 2764.026402\n"
      ++ codes "w flow 2024-04-11 -4166.666667 0.995049504951 -4146.039604294183168317\n"
      ++ codes "w flow 2024-04-11 6944.444444 0.995049504951 6910.066006161922442244 fixing 2024-02-21 0.050000000\n"
      ++ codes "w sum 2764.026401867739273927\ntoday day 2024-02-21\ne engine c\nc curve fresh 2024-02-21\n"
      ++ codes "c node 2024-05-31 0.990099009901 q 0.036000000\nq quote 0.036000000\nx index h\nh handle c\n"
  pub expired : answer_after (today_set (pos 19_824)) (codes "k") ≡
      codes "k -1.464000 fresh 3\nk composite fresh -1.464000\nk part 2 b 0.000000 0.000000\n"
      ++ codes "k part -1 s 1.464000 -1.464000\nb flows fresh 0.000000\ntoday day 2024-04-11\ne engine c\n"
      ++ codes "c curve fresh 2024-04-11\nc node 2024-07-20 0.990099009901 q 0.036000000\nq quote 0.036000000\n"
      ++ codes "s stock fresh 1.464000\nu handle d\nd difference p q\np quote 1.500000000\n"
  pub empty : answer_after (relinked 8 None) (codes "w") ≡
      codes "w refused empty h 1\nw flows fresh refused empty h\n"
      ++ codes "today day 2024-01-02\ne engine c\n" ++ curve_lines ++ codes "x index h\nh handle\n"
  pub refused_member : answer_after (relinked 5 None) (codes "k") ≡
      codes "k refused empty u 2\nk composite fresh refused empty u\n" ++ bond_lines
      ++ codes "s stock fresh refused empty u\nu handle\n"
  pub without_engine : answer_after (engine_set 12 None) (codes "b") ≡
      codes "b refused noengine b 0\nb flows fresh refused noengine b\ntoday day 2024-01-02\n"
  pub unset : answer_after (relinked 5 (Some 3)) (codes "s") ≡
      codes "s refused unset r 0\ns stock fresh refused unset r\nu handle r\nr quote unset\n"
