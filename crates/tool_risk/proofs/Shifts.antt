-- What is moved for an instrument: live quotes, and not too many.
use Rattle.std.proofs.Common.{◌≡◌, ℕ, ◌<◌, ◌≤◌, ◌^◌, ◌++◌, List, [], ◌∷◌, length, ◌∙◌, ap, arith}
use Rattle.std.specs.Prelude.{map}
use Rattle.std.specs.List.{All}
use Rattle.std.proofs.lemmas.List.{length-map, length-append}
use Rattle.std.proofs.lemmas.List.Elements.{All-nil, All-cons, All-map, All-append}
use Rattle.desk_model.specs.Market.{Market}
use Rattle.bump_model.specs.declared.ladder.Bump.{Bump}
use Rattle.bump_model.specs.declared.ladder.Bump.TheVariants.{One}
use Rattle.bump_model.specs.Moves.{AreQuotes, AreBumps, IsBump}
use Rattle.bump_model.specs.Quotes.{quotes_in}
use Rattle.bump_model.proofs.Bumping.{each_are, beneath_are, beneath_few}
use Rattle.tool_risk.specs.Asking.{quotes_of, shift_of, bumps_in, IsFew, AreFew}
use Rattle.tool_risk.specs.Curves.{curves_in}

-- what holds of each number
pub All-of : (P : ℕ → Type 0) → ((x : ℕ) → P x) → (xs : List ℕ) → All P xs
All-of P each [] = All-nil P
All-of P each (x ∷ xs) = All-cons P x xs (each x) (All-of P each xs)

module _ (m : Market) (o : ℕ) where
  below_are : AreQuotes m (quotes_in m) → AreQuotes m (quotes_of m o)
  below_are are = beneath_are m (quotes_in m) o are

  pub bumps_are : AreQuotes m (quotes_in m) → AreBumps m (bumps_in m o)
  bumps_are are =
      All-append (IsBump m) (map One (quotes_of m o)) (map (shift_of m (quotes_of m o)) (curves_in m o))
      (each_are m (quotes_of m o) (below_are are))
      (All-map (IsBump m) (shift_of m (quotes_of m o)) (curves_in m o)
      (All-of (λ c. IsBump m (shift_of m (quotes_of m o) c)) (λ c. beneath_are m (quotes_of m o) c (below_are are)) (curves_in m o)))

  pub bumps_few : length (quotes_in m) ≤ 2 ^ 16 → AreFew (bumps_in m o)
  bumps_few few =
      All-append IsFew (map One (quotes_of m o)) (map (shift_of m (quotes_of m o)) (curves_in m o))
      (All-map IsFew One (quotes_of m o) (All-of (λ q. IsFew (One q)) (λ q. tt) (quotes_of m o)))
      (All-map IsFew (shift_of m (quotes_of m o)) (curves_in m o)
      (All-of (λ c. IsFew (shift_of m (quotes_of m o) c))
      (λ c. let below = beneath_few m (quotes_in m) o in let less = beneath_few m (quotes_of m o) c in omega (arith, few, below, less))
      (curves_in m o)))

  pub bumps_many : length (quotes_in m) ≤ 2 ^ 16 → length (curves_in m o) ≤ 2 ^ 16 → length (bumps_in m o) < 2 ^ 32
  bumps_many few curves =
      let below = beneath_few m (quotes_in m) o in
      let whole = length-append (map One (quotes_of m o)) (map (shift_of m (quotes_of m o)) (curves_in m o)) in
      let ones = length-map (quotes_of m o) One in
      let shifts = length-map (curves_in m o) (shift_of m (quotes_of m o)) in
      omega (arith, few, curves, below, whole, ones, shifts)

-- however the lists are given
pub bumps_is : (m n k : Market) (o : ℕ) (below again curves : List ℕ) (new : List Bump) → n ≡ m → k ≡ m → below ≡ quotes_of m o
    → again ≡ below → curves ≡ curves_in n o → new ≡ map One below ++ map (shift_of k again) curves → new ≡ bumps_in m o
bumps_is m n k o below again curves new first second found same are is =
    is
    ∙ ap (λ (l : List ℕ). map One below ++ map (shift_of k l) curves) same
    ∙ ap (λ (l : Market). map One below ++ map (shift_of l below) curves) second
    ∙ ap (λ (l : List ℕ). map One l ++ map (shift_of m l) curves) found
    ∙ ap (λ (l : List ℕ). map One (quotes_of m o) ++ map (shift_of m (quotes_of m o)) l) (are ∙ ap (λ (l : Market). curves_in l o) first)
