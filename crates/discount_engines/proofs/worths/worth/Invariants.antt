use Rattle.std.proofs.Common.{◌≡◌, ◌≤◌, ◌*◌, ◌^◌, drop, unsigned_abs, option_copied}
use Rattle.cash_flow_legs.specs.Amount.{views_of, amount_of}
use Rattle.cash_flow_legs.specs.Live.{is_live}
use Rattle.discount_engines.specs.Worth.{added, factor_on, discounted, where_live, worth}
use Rattle.discount_engines.proofs.worths.worth.Given as goal

abbrev pub invariant-loop-flow : goal.invariant-loop-flow
invariant-loop-flow l =
    let part = where_live (is_live l.today l.curve.reference) (discounted (amount_of (views_of (option_copied l.index)) l.today (option_copied l.forecast) l.object) (factor_on l.curve)) in
    record {
      due : worth part l.flows ≡ added l.sum (worth part (drop l.flow-index l.flows));
      size : unsigned_abs l.sum ≤ l.flow-index * (4 * 10 ^ 34);
    }
