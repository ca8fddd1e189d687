use Rattle.std.proofs.Common.{◌≡◌, ◌+◌, false, [], drop, IfNone}
use Rattle.curve_points.specs.Curve.{IsRisingFrom, origin}
use Rattle.curve_bootstrap.specs.Node.{last_of}
use Rattle.curve_bootstrap.specs.Built.{nodes_of, coupons_of, first_led, first_takes}
use Rattle.curve_bootstrap.proofs.building.nodes_from.Given as goal

abbrev pub invariant-loop-at : goal.invariant-loop-at
invariant-loop-at l = record {
  rising : IsRisingFrom l.fn.reference l.nodes;
  last : l.last ≡ last_of (origin l.fn.reference) l.nodes;
  led : IfNone (first_led l.calendar l.fn.reference l.helpers) (l.at ≡ 0);
  start : first_takes l.calendar l.fn.reference l.helpers l.rates ≡ false → (l.at ≡ 0) × (l.nodes ≡ []);
  due : nodes_of (coupons_of l.calendar l.fn.reference) (origin l.fn.reference) 1 [] l.helpers l.rates
      ≡ nodes_of (coupons_of l.calendar l.fn.reference) (origin l.fn.reference) (l.at + 1) l.nodes (drop l.at l.helpers) (drop l.at l.rates);
}
