-- What objects pay, one behind another.
use Rattle.std.proofs.Common.{◌≡◌, ℕ, suc, ◌+◌, [], ◌∷◌, ◌++◌, refl, ap, arith}
use Rattle.desk_model.specs.Market.{Market}
use Rattle.tool_risk.specs.Dues.{Span, due_beneath, dues}

module _ (m : Market) (o : ℕ) (span : Span) where
  -- one object more
  pub dues_next : (x : ℕ) → dues m o span (x + 1) ≡ dues m o span x ++ due_beneath m o x span (dues m o span x) ∷ []
  unfolding dues
  dues_next x = ap (dues m o span) (let e : x + 1 ≡ suc x = omega arith in e)

  pub dues_none : dues m o span 0 ≡ []
  unfolding dues
  dues_none = refl
