-- Lemmas on factors between two nodes.
use Rattle.std.proofs.Common.{◌≡◌, ℕ, suc, ◌+◌, ◌*◌, ◌≤◌, ℤ, pos, negsuc, ◌+ℤ◌, ◌-ℤ◌, ◌*ℤ◌, ◌<ℤ◌, ◌≤ℤ◌, refl, ap, ◌∙◌, arith, unsigned_abs, ◌⊎◌, inl, inr}
use Rattle.std.proofs.lemmas.Int.{ints, by_lt_z}
use Rattle.std.proofs.lemmas.Nat.{mul-le}
use Rattle.std.proofs.Math.IntN.{*ℤ-zero}
use Rattle.std.proofs.Math.Nat.{mul-le-mul_right}
use Rattle.fixed_amount.specs.Rounding.{closest}
use Rattle.fixed_amount.proofs.Steps.{closest_rises, closest_by_one, closest_from, closest_to}
use Rattle.curve_points.specs.Segment.{between}

-- a product of two numbers from zero on is within the product of their bounds
pub product_within : (a b : ℤ) (m n : ℕ) → pos 0 ≤ℤ a → a ≤ℤ pos m → pos 0 ≤ℤ b → b ≤ℤ pos n
    → (pos 0 ≤ℤ (a *ℤ b)) × ((a *ℤ b) ≤ℤ pos (m * n))
product_within (pos a) (pos b) m n al ah bl bh =
    (omega (arith, ints), (let h = mul-le a b m n (omega (arith, ints)) (omega (arith, ints)) in omega (arith, ints, h)))
product_within (pos a) (negsuc b) m n al ah bl bh = absurd (omega (arith, ints))
product_within (negsuc a) b m n al ah bl bh = absurd (omega (arith, ints))

-- a number from zero on is its size
pub pos_abs : (z : ℤ) → pos 0 ≤ℤ z → z ≡ pos (unsigned_abs z)
pos_abs (pos n) h = refl
pos_abs (negsuc n) h = absurd (omega (arith, ints))

-- a whole multiple of the divisor is divided exactly
pub closest_exact : (z : ℤ) (d : ℕ) → 1 ≤ d → closest (z *ℤ pos d) d ≡ z
closest_exact z d hd =
    let low = closest_from (z *ℤ pos d) z d hd (omega (arith, ints)) in
    let high = closest_to (z *ℤ pos d) z d hd (omega (arith, ints)) in
    omega (arith, ints, low, high)

-- the factor between two, in whole numbers
between_is : (from to day : ℤ) (a b : ℕ) → from <ℤ day → day ≤ℤ to
    → between from (pos a) to (pos b) day
    ≡ closest (pos (a * unsigned_abs (to -ℤ day) + b * unsigned_abs (day -ℤ from))) (unsigned_abs (to -ℤ from))
between_is from to day a b after within =
    let before = pos_abs (to -ℤ day) (omega (arith, ints)) in
    let passed = pos_abs (day -ℤ from) (omega (arith, ints)) in
    ap (λ (n : ℤ). closest n (unsigned_abs (to -ℤ from)))
    (ap (λ (p : ℤ). pos a *ℤ p +ℤ pos b *ℤ (day -ℤ from)) before
    ∙ ap (λ (q : ℤ). pos a *ℤ pos (unsigned_abs (to -ℤ day)) +ℤ pos b *ℤ q) passed)

-- the days of a segment in two parts
parts_of : (from to day : ℤ) → from <ℤ day → day ≤ℤ to
    → unsigned_abs (to -ℤ from) ≡ unsigned_abs (to -ℤ day) + unsigned_abs (day -ℤ from)
parts_of from to day after within = omega (arith, ints)

some_days : (from to day : ℤ) → from <ℤ day → day ≤ℤ to → 1 ≤ unsigned_abs (to -ℤ from)
some_days from to day after within = omega (arith, ints)

-- the factor between two is within the bounds of both
between_nat : (from to day : ℤ) (a b m most : ℕ) → from <ℤ day → day ≤ℤ to → m ≤ a → m ≤ b → a ≤ most → b ≤ most
    → (pos m ≤ℤ between from (pos a) to (pos b) day) × (between from (pos a) to (pos b) day ≤ℤ pos most)
between_nat from to day a b m most after within ma mb am bm =
    let p = unsigned_abs (to -ℤ day) in
    let q = unsigned_abs (day -ℤ from) in
    let d = unsigned_abs (to -ℤ from) in
    let e = parts_of from to day after within in
    let some = some_days from to day after within in
    let low : m * d ≤ a * p + b * q = rw e (omega (arith, mul-le-mul_right p ma, mul-le-mul_right q mb)) in
    let high : a * p + b * q ≤ most * d = rw e (omega (arith, mul-le-mul_right p am, mul-le-mul_right q bm)) in
    rw (between_is from to day a b after within) (
      closest_from (pos (a * p + b * q)) (pos m) d some (omega (arith, ints, low)),
      closest_to (pos (a * p + b * q)) (pos most) d some (omega (arith, ints, high)),
    )

-- the same over whole numbers of both signs
pub between_within : (from to day first last : ℤ) (m most : ℕ) → from <ℤ day → day ≤ℤ to
    → pos m ≤ℤ first → pos m ≤ℤ last → first ≤ℤ pos most → last ≤ℤ pos most
    → (pos m ≤ℤ between from first to last day) × (between from first to last day ≤ℤ pos most)
between_within from to day (pos a) (pos b) m most after within ma mb am bm =
    between_nat from to day a b m most after within (omega (arith, ints)) (omega (arith, ints)) (omega (arith, ints)) (omega (arith, ints))
between_within from to day (pos a) (negsuc b) m most after within ma mb am bm = absurd (omega (arith, ints))
between_within from to day (negsuc a) b m most after within ma mb am bm = absurd (omega (arith, ints))

-- one step of the last factor moves the factor between by 0 or 1
pub between_step : (from to day : ℤ) (a b : ℕ) → from <ℤ day → day ≤ℤ to
    → (between from (pos a) to (pos b) day ≤ℤ between from (pos a) to (pos (suc b)) day)
    × (between from (pos a) to (pos (suc b)) day ≤ℤ (between from (pos a) to (pos b) day +ℤ pos 1))
between_step from to day a b after within =
    let p = unsigned_abs (to -ℤ day) in
    let q = unsigned_abs (day -ℤ from) in
    let d = unsigned_abs (to -ℤ from) in
    let some = some_days from to day after within in
    let part : q ≤ d = omega (arith, parts_of from to day after within) in
    let n : a * p + suc b * q ≡ a * p + b * q + q = omega arith in
    rw (between_is from to day a b after within, between_is from to day a (suc b) after within, n)
    (closest_rises (a * p + b * q) d q some, closest_by_one (a * p + b * q) d q some part)

-- the factor between two factors lies between them
pub between_lies : (from to day first last : ℤ) → from <ℤ day → day ≤ℤ to → pos 0 ≤ℤ first → pos 0 ≤ℤ last
    → ((first ≤ℤ between from first to last day) × (between from first to last day ≤ℤ last))
    ⊎ ((last ≤ℤ between from first to last day) × (between from first to last day ≤ℤ first))
between_lies from to day (pos a) (pos b) after within fa fb =
    by_lt_z (pos a) (pos b)
    (λ less. inl (between_within from to day (pos a) (pos b) a b after within (omega (arith, ints)) (omega (arith, ints)) (omega (arith, ints)) (omega (arith, ints))))
    (λ more. inr (between_within from to day (pos a) (pos b) b a after within (omega (arith, ints)) (omega (arith, ints)) (omega (arith, ints)) (omega (arith, ints))))
between_lies from to day (pos a) (negsuc b) after within fa fb = absurd (omega (arith, ints))
between_lies from to day (negsuc a) b after within fa fb = absurd (omega (arith, ints))

-- at the end of a segment stands its last factor
pub between_end : (from to first last : ℤ) → from <ℤ to → between from first to last to ≡ last
between_end from to first last after =
    let none : to -ℤ to ≡ pos 0 = omega (arith, ints) in
    let some : 1 ≤ unsigned_abs (to -ℤ from) = omega (arith, ints) in
    let whole = pos_abs (to -ℤ from) (omega (arith, ints)) in
    ap (λ (n : ℤ). closest n (unsigned_abs (to -ℤ from)))
    (ap (λ (p : ℤ). first *ℤ p +ℤ last *ℤ (to -ℤ from)) none
    ∙ times_none first (last *ℤ (to -ℤ from)) ∙ ap (λ (q : ℤ). last *ℤ q) whole)
    ∙ closest_exact last (unsigned_abs (to -ℤ from)) some
  where
    times_none : (x y : ℤ) → x *ℤ pos 0 +ℤ y ≡ y
    times_none x y = ap (λ (z : ℤ). z +ℤ y) (*ℤ-zero x) ∙ omega (arith, ints)
