-- The curves that engines and indexes give, one behind another.
use Rattle.std.proofs.Common.{◌≡◌, ℕ, suc, ◌+◌, List, [], ◌∷◌, ◌++◌, refl, sym, ◌∙◌, ap, arith}
use Rattle.std.proofs.lemmas.List.{append-nil, append_assoc}
use Rattle.desk_terms.specs.Reading.{Calc}
use Rattle.desk_model.specs.Market.{Market}
use Rattle.bump_ladder.specs.Curves.{curve_given}
use Rattle.tool_risk.specs.declared.given.GivenCurve.{GivenCurve}
use Rattle.tool_risk.specs.Curves.{where_so}
use Rattle.tool_risk.specs.Given.{is_naming, naming_below, where_given, curves_given}

module _ (market : Market) (o : ℕ) where
  -- one object more
  pub naming_next : (x : ℕ) → naming_below market o (x + 1) ≡ naming_below market o x ++ where_so (is_naming market o x) x
  unfolding naming_below
  naming_next x = ap (naming_below market o) (let e : x + 1 ≡ suc x = omega arith in e)

  pub naming_none : naming_below market o 0 ≡ []
  unfolding naming_below
  naming_none = refl

module _ (calc : Calc) where
  module _ (k : Calc) (same : k ≡ calc) (x : ℕ) where
    -- the next one
    pub curves_step : (m n : Market) (all rest : List ℕ) (old new : List GivenCurve) → n ≡ m → all ≡ x ∷ rest
        → new ≡ old ++ where_given x (curve_given k n x)
        → new ++ curves_given calc m rest ≡ old ++ curves_given calc m all
    unfolding curves_given
    curves_step m n all rest old new market steps is =
        ap (λ (l : List GivenCurve). l ++ curves_given calc m rest)
        (is ∙ ap (λ (h : Calc). old ++ where_given x (curve_given h n x)) same
        ∙ ap (λ (l : Market). old ++ where_given x (curve_given calc l x)) market)
        ∙ append_assoc old (where_given x (curve_given calc m x)) (curves_given calc m rest)
        ∙ ap (λ (l : List ℕ). old ++ curves_given calc m l) (sym steps)

  pub curves_ended : (m : Market) (all : List ℕ) (old : List GivenCurve) → all ≡ [] → old ≡ old ++ curves_given calc m all
  unfolding curves_given
  curves_ended m all old is = sym (append-nil old) ∙ ap (λ (l : List ℕ). old ++ curves_given calc m l) (sym is)
