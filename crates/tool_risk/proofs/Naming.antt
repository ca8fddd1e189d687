-- Names, one behind another: the asks for them, and what is written.
use Rattle.std.proofs.Common.{◌≡◌, ℕ, List, [], ◌∷◌, ◌++◌, Result, ℤ, sym, ◌∙◌, ap}
use Rattle.std.proofs.lemmas.List.{append-nil, append_assoc}
use Rattle.desk_terms.specs.declared.kind.Wanted.TheVariants.{Member}
use Rattle.desk_terms.specs.Reading.{Calc}
use Rattle.desk_model.specs.Market.{Market}
use Rattle.desk_model.specs.State.{State}
use Rattle.market_desk.specs.declared.named.Unnamed.{Unnamed}
use Rattle.market_desk.specs.Standing.{object_named}
use Rattle.tool_risk.specs.Asking.{asking_for, name_asking}
use Rattle.tool_risk.specs.Lines.{text_for, name_text, names_text}

module _ (calc : Calc) (size : ℤ) (names : List (List ℕ)) where
  -- what is written of the next one
  pub text_step : (k : Calc) (m n : Market) (of_object : List ℕ) (all rest : List (List ℕ)) (name old new : List ℕ) → k ≡ calc → n ≡ m
      → all ≡ name ∷ rest → new ≡ old ++ name_text k size n names of_object name
      → new ++ names_text calc size m names of_object rest ≡ old ++ names_text calc size m names of_object all
  unfolding names_text
  text_step k m n of_object all rest name old new same market steps is =
      ap (λ (l : List ℕ). l ++ names_text calc size m names of_object rest)
      (is ∙ ap (λ (h : Calc). old ++ name_text h size n names of_object name) same
      ∙ ap (λ (l : Market). old ++ name_text calc size l names of_object name) market)
      ∙ append_assoc old (name_text calc size m names of_object name) (names_text calc size m names of_object rest)
      ∙ ap (λ (l : List (List ℕ)). old ++ names_text calc size m names of_object l) (sym steps)

  pub text_ended : (m : Market) (of_object : List ℕ) (all : List (List ℕ)) (old : List ℕ) → all ≡ []
      → old ≡ old ++ names_text calc size m names of_object all
  unfolding names_text
  text_ended m of_object all old is =
      sym (append-nil old) ∙ ap (λ (l : List (List ℕ)). old ++ names_text calc size m names of_object l) (sym is)

  -- ---- what a name stands for

  module _ (name : List ℕ) (s : State) (found : Result ℕ Unnamed) (is : found ≡ object_named Member s.market names name) where
    pub named_asking : name_asking calc size names name s ≡ asking_for calc size found s
    named_asking = ap (λ (r : Result ℕ Unnamed). asking_for calc size r s) (sym is)

    pub named_text : (of_object : List ℕ) → name_text calc size s.market names of_object name ≡ text_for calc size s.market names of_object name found
    unfolding name_text
    named_text of_object = ap (λ (r : Result ℕ Unnamed). text_for calc size s.market names of_object name r) (sym is)
