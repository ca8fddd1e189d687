use Rattle.std.proofs.Common.{◌≡◌, ◌∙◌, sym, ap, List, Result}
use Rattle.curve_bootstrap.specs.declared.coupons.Coupon.{Coupon}
use Rattle.curve_bootstrap.specs.declared.faults.HelperFault.{HelperFault}
use Rattle.curve_bootstrap.specs.Built.{coupons_of, node_by}
use Rattle.curve_bootstrap.specs.Kept.{AreKept}
use Rattle.curve_bootstrap.proofs.LedLemmas.{led_there}
use Rattle.curve_bootstrap.proofs.MemoryLemmas.{gives_exact}
use Rattle.curve_bootstrap.proofs.building.next_node.Goals as goal
use Rattle.curve_bootstrap.proofs.building.next_node.Goals.{In-Some}

kept : (c : In-Some) → AreKept c.args.calendar.now c.args.from.now.day c.args.helper.now c.in-Some.coupons.now
kept c = rw c.in-Some.is at c.requires.kept

pub node_by-requires-clause-coupons : goal.node_by-requires-clause-coupons
node_by-requires-clause-coupons c = (kept c).fits

exact : (c : goal.After-node_by) → c.node_by.result ≡ node_by c.args.from.now c.args.nodes.now c.args.rate (coupons_of c.args.calendar.now c.args.from.now.day c.args.helper.now)
exact c = c.node_by.ensures.given ∙ ap (λ (cs : Result (List Coupon) HelperFault). node_by c.args.from.now c.args.nodes.now c.args.rate cs) (sym (kept c.before).due)

pub returns-in-Some-clause-given : goal.returns-in-Some-clause-given
returns-in-Some-clause-given c = gives_exact _ _ (exact c)

pub returns-in-Some-clause-day : goal.returns-in-Some-clause-day
returns-in-Some-clause-day c = led_there _ _ (kept c.before).led

pub returns-in-Some-clause-memory : goal.returns-in-Some-clause-memory
returns-in-Some-clause-memory c = λ none. exact c
