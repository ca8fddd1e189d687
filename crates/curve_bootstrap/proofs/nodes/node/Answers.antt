use Rattle.std.proofs.Common.{arith, sym, ap, subst, ◌∙◌, ◌≡◌, ◌≤◌, ◌<◌, ◌^◌, ℕ, ℤ, pos, ◌≤ℤ◌, ◌<ℤ◌, Some, None, Ok, Err, to_z, of_z, FitsSigned, unsigned_abs, nat_le, int_le, true, false}
use mir.Syntax.{w128}
use Rattle.std.proofs.lemmas.Int.{ints, to_z-of_z}
use Rattle.std.proofs.lemmas.Bool.{le-leb, lt-leb}
use Rattle.curve_bootstrap.specs.declared.faults.HelperFault.TheVariants.{Discount}
use Rattle.curve_bootstrap.specs.Coupon.{total, parts_of}
use Rattle.curve_bootstrap.specs.Node.{node_of, excess, last_of, is_negative_sum, root_or_fault}
use Rattle.std.proofs.Common.{List, Option, Result, Bool, suc}
use Rattle.curve_points.specs.declared.curves.CurveNode.{CurveNode}
use Rattle.curve_bootstrap.specs.declared.coupons.Coupon.{Coupon}
use Rattle.curve_bootstrap.specs.declared.faults.HelperFault.{HelperFault}
use Rattle.curve_bootstrap.specs.Split.{settled_of, split_excess, IsRoot}
use Rattle.curve_bootstrap.proofs.NodeLemmas.{node_pillar, node_range, node_negative, node_root, root_some, root_none, root_moved, excess_rises, excess_split, open_rises, Parted, parted_by}
use Rattle.curve_bootstrap.proofs.nodes.node.Goals as goal
use Rattle.curve_bootstrap.proofs.nodes.node.Goals.{After-split_at, After-least_root}

units_fit : (z rate : ℤ) → FitsSigned w128 z → z ≡ rate → to_z w128 (of_z w128 z) ≡ rate
units_fit z rate fits is = to_z-of_z w128 z fits ∙ is

in_range : (z rate : ℤ) (n : ℕ) → FitsSigned w128 z → z ≡ rate → n ≡ unsigned_abs (to_z w128 (of_z w128 z)) → n ≡ unsigned_abs rate
in_range z rate n fits is size = size ∙ ap unsigned_abs (units_fit z rate fits is)

negative_is : (z rate p parts : ℤ) (b : Bool) → FitsSigned w128 z → z ≡ rate → FitsSigned w128 p → p ≡ parts → b ≡ is_negative_sum (to_z w128 (of_z w128 z)) (to_z w128 (of_z w128 p)) → b ≡ is_negative_sum rate parts
negative_is z rate p parts b fits is fp ip value = value ∙ (ap (λ (x : ℤ). is_negative_sum x (to_z w128 (of_z w128 p))) (units_fit z rate fits is) ∙ ap (λ (y : ℤ). is_negative_sum rate y) (units_fit p parts fp ip))

root_is : (f : ℤ → ℤ → ℤ → ℤ) (z rate s settled : ℤ) (r : Option ℤ) → FitsSigned w128 z → z ≡ rate → FitsSigned w128 s → s ≡ settled → IsRoot (f (to_z w128 (of_z w128 z)) (to_z w128 (of_z w128 s))) r → IsRoot (f rate settled) r
root_is f z rate s settled r fits is fs ips root =
    subst (λ (y : ℤ). IsRoot (f rate y) r) (units_fit s settled fs ips) (subst (λ (x : ℤ). IsRoot (f x (to_z w128 (of_z w128 s))) r) (units_fit z rate fits is) root)

after_le : (a b : ℤ) → int_le a b ≡ false → b <ℤ a
after_le a b h = grind (arith, ints)

-- the code's root is the definition's
found_root : (from : CurveNode) (nodes : List CurveNode) (last : CurveNode) (end rate : ℤ) (cs reached rest : List Coupon) (r : Option ℤ) → last ≡ last_of from nodes
    → Parted from nodes end cs reached rest → IsRoot (split_excess last end rate (total (settled_of from nodes) reached) rest) r → IsRoot (excess from nodes end rate cs) r
found_root from nodes last end rate cs reached rest r is parted root =
    let same = subst (λ (n : CurveNode). IsRoot (split_excess n end rate (total (settled_of from nodes) reached) rest) r) is root in
    root_moved (split_excess (last_of from nodes) end rate (total (settled_of from nodes) reached) rest) (excess from nodes end rate cs)
    (λ x. sym (excess_split from nodes end rate x cs reached rest parted)) r same

pub returns-then-is_not_after-clause-value : goal.returns-then-is_not_after-clause-value
returns-then-is_not_after-clause-value c = node_pillar c.args.from.now c.args.nodes.now c.args.last.now c.args.end c.args.rate c.args.coupons.now c.requires.last (sym c.is_not_after.ensures ∙ c.if-is_not_after.true)

pub returns-then-unsigned_abs-gt10000000000-clause-value : goal.returns-then-unsigned_abs-gt10000000000-clause-value
returns-then-unsigned_abs-gt10000000000-clause-value c =
    let fits : FitsSigned w128 c.units_of-units.result = omega (arith, ints) in
    let size = in_range c.units_of-units.result c.args.rate c.unsigned_abs.result fits c.units_of-units.ensures c.unsigned_abs.ensures.value in
    let wide : nat_le (unsigned_abs c.args.rate) (10 ^ 10) ≡ false = lt-leb _ _ (subst (λ (n : ℕ). 10000000000 < n) size c.if-unsigned_abs-gt10000000000.true) in
    node_range c.args.from.now c.args.nodes.now c.args.last.now c.args.end c.args.rate c.args.coupons.now c.requires.last (sym c.is_not_after.ensures ∙ c.if-is_not_after.false) wide

pub returns-then-is_negative_sum-clause-value : goal.returns-then-is_negative_sum-clause-value
returns-then-is_negative_sum-clause-value c =
    let fits : FitsSigned w128 c.units_of-units.result = omega (arith, ints) in
    let fp : FitsSigned w128 c.parts_total.result = omega (arith, ints) in
    let size = in_range c.units_of-units.result c.args.rate c.unsigned_abs.result fits c.units_of-units.ensures c.unsigned_abs.ensures.value in
    let wide : nat_le (unsigned_abs c.args.rate) (10 ^ 10) ≡ true = le-leb (unsigned_abs c.args.rate) 10000000000 (subst (λ (n : ℕ). n ≤ 10000000000) size c.if-unsigned_abs-gt10000000000.false) in
    let test = negative_is c.units_of-units.result c.args.rate c.parts_total.result (total parts_of c.args.coupons.now) c.is_negative_sum.result fits c.units_of-units.ensures fp c.parts_total.ensures.value c.is_negative_sum.ensures in
    node_negative c.args.from.now c.args.nodes.now c.args.last.now c.args.end c.args.rate c.args.coupons.now c.requires.last (sym c.is_not_after.ensures ∙ c.if-is_not_after.false) wide (sym test ∙ c.if-is_negative_sum.true)

-- the coupons that the nodes reach, and those behind the last
parts : (c : After-split_at) → Parted c.args.from.now c.args.nodes.now c.args.end c.args.coupons.now c.split_at.result.0.now c.split_at.result.1.now
parts c =
    let pillar : int_le c.args.end c.args.last.now.day ≡ false = sym c.is_not_after.ensures ∙ c.if-is_not_after.false in
    parted_by c.args.from.now c.args.nodes.now c.args.last.now c.args.end c.args.coupons.now c.split_at.result.0.now c.split_at.result.1.now c.reached_by.result
    c.requires.rising c.requires.last c.requires.coupons (after_le c.args.end c.args.last.now.day pillar) c.reached_by.ensures.bound
    c.split_at.ensures.front c.split_at.ensures.back c.reached_by.ensures.before c.reached_by.ensures.after

pub settled_total-settled-requires-clause-after : goal.settled_total-settled-requires-clause-after
settled_total-settled-requires-clause-after c = (parts c.before.before).reached_after

pub least_root-requires-clause-after : goal.least_root-requires-clause-after
least_root-requires-clause-after c =
    rw c.requires.last (parts c.before.before.before).open_after

pub least_root-requires-clause-up_to : goal.least_root-requires-clause-up_to
least_root-requires-clause-up_to c = (parts c.before.before.before).open_up_to

pub least_root-requires-clause-rises : goal.least_root-requires-clause-rises
least_root-requires-clause-rises c =
    let fp : FitsSigned w128 c.parts_total.result = omega (arith, ints) in
    let sum = to_z-of_z w128 c.parts_total.result fp ∙ c.parts_total.ensures.value in
    let mild = ap (is_negative_sum (to_z w128 (of_z w128 c.units_of-units.result))) (sym sum) ∙ (sym c.is_negative_sum.ensures ∙ c.if-is_negative_sum.false) in
    let factor : pos 0 ≤ℤ c.args.last.now.factor = omega (arith, ints, c.wide-factor.ensures.low, c.wide-factor.ensures.value) in
    open_rises c.args.from.now c.args.nodes.now c.args.last.now c.args.end (to_z w128 (of_z w128 c.units_of-units.result)) (to_z w128 (of_z w128 c.settled_total-settled.result)) c.args.coupons.now
    c.split_at.result.0.now c.split_at.result.1.now c.requires.last (parts c.before.before.before) factor mild

-- both answers of the search
answer : (c : After-least_root) (r : Option ℤ) (found : Result ℤ HelperFault) → c.least_root.result ≡ r → (((x : ℕ) → excess c.args.from.now c.args.nodes.now c.args.end c.args.rate c.args.coupons.now (pos x) <ℤ excess c.args.from.now c.args.nodes.now c.args.end c.args.rate c.args.coupons.now (pos (suc x))) → IsRoot (excess c.args.from.now c.args.nodes.now c.args.end c.args.rate c.args.coupons.now) r → found ≡ root_or_fault (excess c.args.from.now c.args.nodes.now c.args.end c.args.rate c.args.coupons.now)) → found ≡ node_of c.args.from.now c.args.nodes.now c.args.end c.args.rate c.args.coupons.now
answer c r found is turned =
    let fits : FitsSigned w128 c.units_of-units.result = omega (arith, ints) in
    let fp : FitsSigned w128 c.parts_total.result = omega (arith, ints) in
    let fs : FitsSigned w128 c.settled_total-settled.result = omega (arith, ints) in
    let size = in_range c.units_of-units.result c.args.rate c.unsigned_abs.result fits c.units_of-units.ensures c.unsigned_abs.ensures.value in
    let wide : nat_le (unsigned_abs c.args.rate) (10 ^ 10) ≡ true = le-leb (unsigned_abs c.args.rate) 10000000000 (subst (λ (n : ℕ). n ≤ 10000000000) size c.if-unsigned_abs-gt10000000000.false) in
    let test = negative_is c.units_of-units.result c.args.rate c.parts_total.result (total parts_of c.args.coupons.now) c.is_negative_sum.result fits c.units_of-units.ensures fp c.parts_total.ensures.value c.is_negative_sum.ensures in
    let mild : is_negative_sum c.args.rate (total parts_of c.args.coupons.now) ≡ false = sym test ∙ c.if-is_negative_sum.false in
    let pillar : int_le c.args.end c.args.last.now.day ≡ false = sym c.is_not_after.ensures ∙ c.if-is_not_after.false in
    let reached = c.split_at.result.0.now in
    let open_ones = c.split_at.result.1.now in
    let parted = parts c.before.before.before.before in
    let root = root_is (λ (rate settled : ℤ). split_excess c.args.last.now c.args.end rate settled open_ones) c.units_of-units.result c.args.rate c.settled_total-settled.result
    (total (settled_of c.args.from.now c.args.nodes.now) reached) c.least_root.result fits c.units_of-units.ensures fs c.settled_total-settled.ensures.value c.least_root.ensures in
    let moved = found_root c.args.from.now c.args.nodes.now c.args.last.now c.args.end c.args.rate c.args.coupons.now reached open_ones c.least_root.result c.requires.last parted root in
    let factor : pos 0 ≤ℤ c.args.last.now.factor = omega (arith, ints, c.wide-factor.ensures.low, c.wide-factor.ensures.value) in
    let rises = excess_rises c.args.from.now c.args.nodes.now c.args.end c.args.rate c.args.coupons.now reached open_ones parted
    (subst (λ (n : CurveNode). pos 0 ≤ℤ n.factor) c.requires.last factor) mild in
    node_root c.args.from.now c.args.nodes.now c.args.last.now c.args.end c.args.rate c.args.coupons.now found c.requires.last pillar wide mild
    (turned rises (subst (λ (o : Option ℤ). IsRoot (excess c.args.from.now c.args.nodes.now c.args.end c.args.rate c.args.coupons.now) o) is moved))

pub returns-in-Some-clause-value : goal.returns-in-Some-clause-value
returns-in-Some-clause-value c = answer c.before (Some c.in-Some.factor) (Ok c.in-Some.factor) c.in-Some.is (λ rises root. root_some (excess c.args.from.now c.args.nodes.now c.args.end c.args.rate c.args.coupons.now) c.in-Some.factor rises root)

pub returns-in-None-clause-value : goal.returns-in-None-clause-value
returns-in-None-clause-value c = answer c.before None (Err Discount) c.in-None.is (λ rises root. root_none (excess c.args.from.now c.args.nodes.now c.args.end c.args.rate c.args.coupons.now) root)

pub returns-in-Some-clause-after : goal.returns-in-Some-clause-after
returns-in-Some-clause-after c = after_le c.args.end c.args.last.now.day (sym c.is_not_after.ensures ∙ c.if-is_not_after.false)
