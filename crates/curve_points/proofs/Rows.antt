-- Worked rows, by QuantLib and by hand, that the definitions give.
use Rattle.std.proofs.Common.{◌≡◌, refl, pos, ◌∷◌, [], Ok, Err}
use Rattle.curve_points.specs.declared.points.PointFault.TheVariants.{Before, Past}
use Rattle.curve_points.specs.declared.seen.ImpliedFault.TheVariants.{Node, Before as SeenBefore, Past as SeenPast}
use Rattle.curve_points.specs.Curve.{Curve}
use Rattle.curve_points.specs.Point.{discount_at, beyond}
use Rattle.curve_points.specs.Implied.{implied_curve}

-- from 2024-01-02, with the one node 0.990099009901 at 2024-04-11
one_node : Curve
one_node = record { owner = 7; reference = pos 19724; nodes = record { day = pos 19824; factor = pos 990099009901 } ∷ [] }

bare : Curve
bare = record { owner = 7; reference = pos 19724; nodes = [] }

-- 2024-02-21
at_half : discount_at one_node (pos 19774) ≡ Ok (pos 995049504951)
unfolding discount_at beyond one_node
at_half = refl

at_reference : discount_at one_node (pos 19724) ≡ Ok (pos 1000000000000)
unfolding discount_at beyond one_node
at_reference = refl

at_node : discount_at one_node (pos 19824) ≡ Ok (pos 990099009901)
unfolding discount_at beyond one_node
at_node = refl

-- 2024-04-12 and 2024-01-01
past_node : discount_at one_node (pos 19825) ≡ Err Past
unfolding discount_at beyond one_node
past_node = refl

before_reference : discount_at one_node (pos 19723) ≡ Err Before
unfolding discount_at beyond one_node
before_reference = refl

-- a curve without nodes
bare_there : discount_at bare (pos 19724) ≡ Ok (pos 1000000000000)
unfolding discount_at beyond bare
bare_there = refl

bare_past : discount_at bare (pos 19725) ≡ Err Past
unfolding discount_at beyond bare
bare_past = refl

-- seen from 2024-02-21
seen_half : implied_curve one_node 8 (pos 19774) ≡ Ok (record { owner = 8; reference = pos 19774; nodes = record { day = pos 19824; factor = pos 995024875621 } ∷ [] })
unfolding implied_curve discount_at beyond one_node
seen_half = refl

-- seen from its last day
seen_end : implied_curve one_node 8 (pos 19824) ≡ Ok (record { owner = 8; reference = pos 19824; nodes = [] })
unfolding implied_curve discount_at beyond one_node
seen_end = refl

seen_outside : implied_curve one_node 8 (pos 19825) ≡ Err SeenPast
unfolding implied_curve discount_at beyond one_node
seen_outside = refl

seen_early : implied_curve one_node 8 (pos 19723) ≡ Err SeenBefore
unfolding implied_curve discount_at beyond one_node
seen_early = refl

-- seen from its first node, 8 units over 2 are 4 and in range, 9 units over 2 are not: the second node behind it
steep : Curve
steep = record {
  owner = 7;
  reference = pos 0;
  nodes = record { day = pos 10; factor = pos 2 } ∷ record { day = pos 20; factor = pos 8 } ∷ record { day = pos 30; factor = pos 9 } ∷ [];
}

seen_steep : implied_curve steep 8 (pos 10) ≡ Err (Node 2)
unfolding implied_curve discount_at beyond steep
seen_steep = refl
