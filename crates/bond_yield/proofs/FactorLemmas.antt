-- Lemmas on factors, and on what flows are worth by them.
use Rattle.std.proofs.Common.{◌≡◌, ℕ, zero, suc, ◌+◌, ◌*◌, ◌/◌, ◌-◌, ◌<◌, ◌≤◌, arith, refl, subst, true, false, ℤ, pos, ◌≤ℤ◌, List, [], ◌∷◌, length, get_or, drop, drop_of_length-le, map}
use Rattle.std.proofs.lemmas.Nat.{le-div}
use Rattle.std.proofs.Math.Nat.{div-mul-le_self, mul-le-mul_left, mul-le-mul_right}
use Rattle.fixed_amount.specs.Rounding.{closest}
use Rattle.fixed_amount.proofs.Steps.{closest_rises}
use Rattle.year_parts.specs.declared.bases.Basis.TheVariants.{D365}
use Rattle.year_parts.specs.Basis.{parts_in_day}
use Rattle.flow_terms.specs.declared.flows.FlowTerm.{FlowTerm}
use Rattle.flow_terms.specs.Flows.{paid_on}
use Rattle.bond_yield.specs.Price.{one, whole, days_from, amount_of, factor_after, factors_from, worth, is_after, paid_after, worth_from, full_price}
use Rattle.bond_yield.proofs.FlowLemmas.{here}

-- what 1 grows to over days at a yield
abbrev growth : ℕ → ℕ → ℕ
growth yield days = whole + yield * (days * parts_in_day D365)

growth_rises : (y z days : ℕ) → y ≤ z → growth y days ≤ growth z days
growth_rises y z days h = omega (arith, mul-le-mul_right (days * parts_in_day D365) h)

-- a greater yield, behind a factor that is not greater, gives no greater factor
pub falls : (y z v w days : ℕ) → y ≤ z → w ≤ v → factor_after z w days ≤ factor_after y v days
unfolding factor_after
falls y z v w days hy hv =
    let found = w * whole / growth z days in
    let back = mul-le-mul_left {m = growth y days} {n = growth z days} found (growth_rises y z days hy) in
    let within = div-mul-le_self (w * whole) (growth z days) in
    let more = mul-le-mul_right {m = w} {n = v} whole hv in
    le-div found (v * whole) (growth y days) (omega arith) (omega (arith, back, within, more))

pub factors_fall : (y z : ℕ) → y ≤ z → (day : ℤ) (v w : ℕ) → w ≤ v → (days : List ℤ) (k : ℕ)
    → get_or (factors_from z day w days) k 0 ≤ get_or (factors_from y day v days) k 0
unfolding factors_from
factors_fall y z hy day v w hv [] k = omega arith
factors_fall y z hy day v w hv (paid ∷ days) zero = falls y z v w (days_from day paid) hy hv
factors_fall y z hy day v w hv (paid ∷ days) (suc k) =
    factors_fall y z hy paid (factor_after y v (days_from day paid)) (factor_after z w (days_from day paid)) (falls y z v w (days_from day paid) hy hv) days k

pub worth_falls : (y z : ℕ) → y ≤ z → (day : ℤ) (v w : ℕ) → w ≤ v → (amounts : List ℕ) (days : List ℤ)
    → worth amounts (factors_from z day w days) ≤ worth amounts (factors_from y day v days)
unfolding factors_from worth
worth_falls y z hy day v w hv [] days = omega arith
worth_falls y z hy day v w hv (amount ∷ amounts) [] = omega arith
worth_falls y z hy day v w hv (amount ∷ amounts) (paid ∷ days) =
    let less = falls y z v w (days_from day paid) hy hv in
    let first = mul-le-mul_left {m = factor_after z w (days_from day paid)} {n = factor_after y v (days_from day paid)} amount less in
    let rest = worth_falls y z hy paid (factor_after y v (days_from day paid)) (factor_after z w (days_from day paid)) less amounts days in
    omega (arith, first, rest)

closest_up : (n m d : ℕ) → 1 ≤ d → n ≤ m → closest (pos n) d ≤ℤ closest (pos m) d
closest_up n m d hd h =
    let is : n + (m - n) ≡ m = omega (arith, h) in
    subst (λ (k : ℕ). closest (pos n) d ≤ℤ closest (pos k) d) is (closest_rises n d (m - n) hd)

pub price_falls : (flows : List FlowTerm) (settle : ℤ) (y z : ℕ) → y ≤ z → full_price flows settle z ≤ℤ full_price flows settle y
price_falls flows settle y z h =
    closest_up (worth_from z settle one (paid_after settle flows)) (worth_from y settle one (paid_after settle flows)) one (omega arith)
    (worth_falls y z h settle one one (omega arith) (map amount_of (paid_after settle flows)) (map paid_on (paid_after settle flows)))

-- a flow that is settled already is passed over
pub worth_skipped : (flows : List FlowTerm) (at : ℕ) (flow : FlowTerm) (settle : ℤ) (y factor : ℕ) (day : ℤ) → at < length flows → flow ≡ get_or flows at flow → is_after settle flow ≡ false
    → worth_from y day factor (paid_after settle (drop at flows)) ≡ worth_from y day factor (paid_after settle (drop (at + 1) flows))
worth_skipped flows at flow settle y factor day h is settled = rw (here flows at flow h is, settled) refl

-- one that is paid later stands in front, with the factor of its day
pub worth_taken : (flows : List FlowTerm) (at : ℕ) (flow : FlowTerm) (settle : ℤ) (y factor : ℕ) (day : ℤ) → at < length flows → flow ≡ get_or flows at flow → is_after settle flow ≡ true
    → let next = factor_after y factor (days_from day (paid_on flow)) in
    worth_from y day factor (paid_after settle (drop at flows)) ≡ amount_of flow * next + worth_from y (paid_on flow) next (paid_after settle (drop (at + 1) flows))
unfolding factors_from worth
worth_taken flows at flow settle y factor day h is later = rw (here flows at flow h is, later) refl

pub worth_end : (flows : List FlowTerm) (at : ℕ) (settle : ℤ) (y factor : ℕ) (day : ℤ) → length flows ≤ at → worth_from y day factor (paid_after settle (drop at flows)) ≡ 0
unfolding factors_from worth
worth_end flows at settle y factor day h = rw (drop_of_length-le flows h) refl
