-- The curves beneath an object.
use Rattle.std.proofs.Common.{◌≡◌, ℕ, zero, suc, ◌+◌, ◌≤◌, ◌^◌, Bool, true, false, List, [], ◌∷◌, ◌++◌, length, refl, ap, arith}
use Rattle.std.proofs.lemmas.List.{append-nil, length-append}
use Rattle.desk_model.specs.Market.{Market}
use Rattle.tool_risk.specs.Curves.{is_beneath, where_so, curves_below}

module _ (market : Market) (o : ℕ) where
  -- one object more
  pub curves_next : (c : ℕ) → curves_below market o (c + 1) ≡ curves_below market o c ++ where_so (is_beneath market o c) c
  unfolding curves_below
  curves_next c = ap (curves_below market o) (let e : c + 1 ≡ suc c = omega arith in e)

  pub curves_none : curves_below market o 0 ≡ []
  unfolding curves_below
  curves_none = refl

  longer : (c : ℕ) (passes : Bool) (found : List ℕ) → length found ≤ c → length (found ++ where_so passes c) ≤ suc c
  longer c true found few = let e = length-append found (c ∷ []) in omega (arith, few, e)
  longer c false found few = let e = ap length (append-nil found) in omega (arith, few, e)

  few_first : (c : ℕ) → length (curves_below market o c) ≤ c
  unfolding curves_below
  few_first zero = omega arith
  few_first (suc c) = longer c (is_beneath market o c) (curves_below market o c) (few_first c)

  pub few_found : (c : ℕ) (found : List ℕ) → found ≡ curves_below market o c → c ≤ 2 ^ 16 → length found ≤ 2 ^ 16
  few_found c found is low = let few = few_first c in let same = ap length is in omega (arith, few, same, low)
