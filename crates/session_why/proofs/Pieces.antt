-- Lines that follow one another.
use Rattle.std.proofs.Common.{◌≡◌, ℕ, ℤ, ◌+◌, ◌<◌, ◌≤◌, Bool, true, false, List, [], ◌∷◌, ◌++◌, length, get_or, drop}
use Rattle.std.proofs.Common.{Result, Ok, Err, refl, sym, ◌∙◌, ap, append_assoc}
use Rattle.std.specs.Prelude.{codes, ◌==◌, if◌then◌else◌, OnOk}
use Rattle.std.proofs.lemmas.List.{append-nil, drop_more, drop_all}
use Rattle.desk_model.specs.Market.{without}
use Rattle.curve_points.specs.declared.curves.CurveNode.{CurveNode}
use Rattle.session_model.specs.Standing.{Standing}
use Rattle.why_model.specs.Workings.{PartProduct, NodeRate, FlowProduct}
use Rattle.why_model.specs.Answer.{named, each_named, parts_text, node_rates_text, nodes_text, flows_text}
use Rattle.session_why.specs.Lasts.{nodes_with}

-- the lines of the first, and those of the others
none_behind : (text rest : List ℕ) → text ++ rest ≡ (text ++ []) ++ rest
none_behind text rest = ap (λ (l : List ℕ). l ++ rest) (sym (append-nil text))

pub flows_more : (name : List ℕ) (flow : FlowProduct) (flows : List FlowProduct)
    → flows_text name (flow ∷ flows) ≡ flows_text name (flow ∷ []) ++ flows_text name flows
flows_more name flow flows = none_behind _ (flows_text name flows)

pub parts_more_text : (p : Standing) (name : List ℕ) (part : PartProduct) (parts : List PartProduct)
    → parts_text p name (part ∷ parts) ≡ parts_text p name (part ∷ []) ++ parts_text p name parts
parts_more_text p name part parts = none_behind _ (parts_text p name parts)

pub node_rates_more : (p : Standing) (name : List ℕ) (node : NodeRate) (nodes : List NodeRate)
    → node_rates_text p name (node ∷ nodes) ≡ node_rates_text p name (node ∷ []) ++ node_rates_text p name nodes
node_rates_more p name node nodes = none_behind _ (node_rates_text p name nodes)

pub nodes_more : (name : List ℕ) (node : CurveNode) (nodes : List CurveNode)
    → nodes_text name (node ∷ nodes) ≡ nodes_text name (node ∷ []) ++ nodes_text name nodes
nodes_more name node nodes = none_behind _ (nodes_text name nodes)

-- the names of objects but that of the evaluation date
pub subjects_more : (p : Standing) (x : ℕ) (xs : List ℕ)
    → each_named p (without 0 (x ∷ xs)) ≡ each_named p (without 0 (x ∷ [])) ++ each_named p (without 0 xs)
subjects_more p x xs = by (0 == x)
  where
    by : (b : Bool) → each_named p (if b then without 0 xs else x ∷ without 0 xs)
        ≡ each_named p (if b then [] else x ∷ []) ++ each_named p (without 0 xs)
    by true = refl
    by false = none_behind (codes " " ++ named p x) (each_named p (without 0 xs))

-- ---- nodes with their quotes and rates

-- the first of those from a place on
pub next_at : {A : Type 0} (xs : List A) (at : ℕ) (x : A) → at < length xs → x ≡ get_or xs at x
    → drop at xs ≡ x ∷ drop (at + 1) xs
next_at xs at x within is = drop_more xs at x within ∙ ap (λ y. y ∷ drop (at + 1) xs) (sym is)

module _ (p : Standing) (name : List ℕ) (nodes : List CurveNode) (quotes : List ℕ) (rates : List ℤ) (at : ℕ) where
  pub rates_step : (node : CurveNode) (quote : ℕ) (rate : ℤ) (old new whole : List ℕ) → at < length nodes
      → at < length quotes
      → at < length rates → node ≡ get_or nodes at node → quote ≡ get_or quotes at quote → rate ≡ get_or rates at rate
      → new ≡ old ++ node_rates_text p name (record { node = node; quote = quote; rate = rate } ∷ [])
      → old ++ node_rates_text p name (nodes_with (drop at nodes) (drop at quotes) (drop at rates)) ≡ whole
      → new ++ node_rates_text p name (nodes_with (drop (at + 1) nodes) (drop (at + 1) quotes) (drop (at + 1) rates))
      ≡ whole
  rates_step node quote rate old new whole a b c is_node is_quote is_rate wrote so_far =
      let rest = nodes_with (drop (at + 1) nodes) (drop (at + 1) quotes) (drop (at + 1) rates) in
      let one : NodeRate = record { node = node; quote = quote; rate = rate } in
      ap (λ (l : List ℕ). l ++ node_rates_text p name rest) wrote
      ∙ append_assoc old (node_rates_text p name (one ∷ [])) (node_rates_text p name rest)
      ∙ ap (λ (l : List ℕ). old ++ l) (sym (node_rates_more p name one rest))
      ∙ ap (λ (l : List CurveNode). old ++ node_rates_text p name
      (nodes_with l (quote ∷ drop (at + 1) quotes) (rate ∷ drop (at + 1) rates)))
      (sym (next_at nodes at node a is_node))
      ∙ ap (λ (l : List ℕ). old ++ node_rates_text p name (nodes_with (drop at nodes) l (rate ∷ drop (at + 1) rates)))
      (sym (next_at quotes at quote b is_quote))
      ∙ ap (λ (l : List ℤ). old ++ node_rates_text p name (nodes_with (drop at nodes) (drop at quotes) l))
      (sym (next_at rates at rate c is_rate))
      ∙ so_far

  no_quotes : (nodes : List CurveNode) (rates : List ℤ) → nodes_with nodes [] rates ≡ []
  no_quotes [] rates = refl
  no_quotes (node ∷ nodes) rates = refl

  no_rates : (nodes : List CurveNode) (quotes : List ℕ) → nodes_with nodes quotes [] ≡ []
  no_rates [] quotes = refl
  no_rates (node ∷ nodes) [] = refl
  no_rates (node ∷ nodes) (quote ∷ quotes) = refl

  module _ (old whole : List ℕ)
      (so_far : old ++ node_rates_text p name (nodes_with (drop at nodes) (drop at quotes) (drop at rates)) ≡ whole)
    where
      ended : nodes_with (drop at nodes) (drop at quotes) (drop at rates) ≡ [] → old ≡ whole
      ended none =
          sym (append-nil old) ∙ ap (λ (l : List NodeRate). old ++ node_rates_text p name l) (sym none) ∙ so_far

      pub quotes_end : length quotes ≤ at → old ≡ whole
      quotes_end past =
          ended (ap (λ (l : List ℕ). nodes_with (drop at nodes) l (drop at rates)) (drop_all at quotes past) ∙ no_quotes
          (drop at nodes) (drop at rates))

      pub rates_end : length rates ≤ at → old ≡ whole
      rates_end past =
          ended (ap (nodes_with (drop at nodes) (drop at quotes)) (drop_all at rates past) ∙ no_rates (drop at nodes)
          (drop at quotes))

-- two pieces, one after the other
pub wrote_both : {A E : Type 0} (r : Result A E) (old middle new first second whole : List ℕ) → middle ≡ old ++ first
    → whole ≡ first ++ second → OnOk r (new ≡ middle ++ second) → OnOk r (new ≡ old ++ whole)
wrote_both (Ok x) old middle new first second whole one both two =
    two ∙ ap (λ (l : List ℕ). l ++ second) one ∙ append_assoc old first second
    ∙ ap (λ (l : List ℕ). old ++ l) (sym both)
wrote_both (Err e) old middle new first second whole one both two = tt
