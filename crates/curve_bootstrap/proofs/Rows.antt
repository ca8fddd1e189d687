-- Worked rows, by QuantLib and by hand, that the definitions give.
use Rattle.std.proofs.Common.{◌≡◌, ◌∷◌, [], refl, pos, neg_ℤ, Err}
use Rattle.curve_points.specs.Curve.{origin}
use Rattle.curve_points.specs.Point.{beyond}
use Rattle.curve_bootstrap.specs.declared.faults.HelperFault.TheVariants.{Negative, Pillar, RateRange}
use Rattle.curve_bootstrap.specs.Coupon.{total}
use Rattle.curve_bootstrap.specs.Node.{node_of, excess}

-- what a swap of one year from 2024-01-02 is worth at 4 %, at the node and just below it
worth_there : excess (origin (pos 19724)) [] (pos 20090) (pos 40000000) (record { day = pos 20090; parts = pos 11221560 } ∷ []) (pos 961538461539) ≡ pos 6284073600000000
unfolding excess total beyond
worth_there = refl

worth_below : excess (origin (pos 19724)) [] (pos 20090) (pos 40000000) (record { day = pos 20090; parts = pos 11221560 } ∷ []) (pos 961538461538) ≡ neg_ℤ (pos 5386348800000000)
unfolding excess total beyond
worth_below = refl

-- an end that is not after the reference day, and a rate beyond 10
pillar : node_of (origin (pos 19724)) [] (pos 19724) (pos 40000000) (record { day = pos 19724; parts = pos 0 } ∷ []) ≡ Err Pillar
unfolding node_of
pillar = refl

rate_beyond : node_of (origin (pos 19724)) [] (pos 19725) (pos 10000000001) (record { day = pos 19725; parts = pos 31171 } ∷ []) ≡ Err RateRange
unfolding node_of
rate_beyond = refl

-- a rate of -1 for a whole year outweighs what is paid at its end
outweighs : node_of (origin (pos 19724)) [] (pos 20090) (neg_ℤ (pos 1000000000)) (record { day = pos 20090; parts = pos 11221560 } ∷ []) ≡ Err Negative
unfolding node_of total
outweighs = refl
