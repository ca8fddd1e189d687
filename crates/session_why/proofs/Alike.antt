-- What is written of an object is the same before an ask and after it.
use Rattle.std.proofs.Common.{◌≡◌, ℕ, Bool, true, false, List, [], ◌∷◌, ◌++◌, Option, Some, None, Result, Ok, Err, refl}
use Rattle.std.proofs.Common.{◌∙◌, ap}
use Rattle.std.specs.Prelude.{codes, if◌then◌else◌}
use Rattle.day_number.specs.Day.{day_text}
use Rattle.fixed_amount.specs.Decimal.{decimal_text}
use Rattle.price_report.specs.Line.{point_text}
use Rattle.flow_terms.specs.Flows.{is_expired}
use Rattle.desk_terms.specs.declared.terms.Terms.{Terms}
use Rattle.desk_terms.specs.declared.terms.Terms.TheVariants.{Quote, Derived, Handle, Curve, Implied, Index, Engine}
use Rattle.desk_terms.specs.declared.terms.Terms.TheVariants.{Stock, Composite, Flows}
use Rattle.desk_terms.specs.declared.asked.Mark.{Mark}
use Rattle.desk_terms.specs.declared.value.Value.{Value}
use Rattle.desk_terms.specs.declared.value.Value.TheVariants as value
use Rattle.desk_terms.specs.declared.value.Input as input
use Rattle.desk_terms.specs.declared.cause.Cause.{Cause}
use Rattle.desk_terms.specs.Asked.{mark_word}
use Rattle.desk_terms.specs.Reading.{Outcome, Calc}
use Rattle.desk_model.specs.declared.slot.Slot.{Slot}
use Rattle.desk_model.specs.declared.slot.Slot.TheVariants as slot
use Rattle.desk_model.specs.Market.{Market, edges, slot_at, without}
use Rattle.desk_model.specs.Fresh.{inputs_by}
use Rattle.desk_model.specs.Uses.{uses}
use Rattle.desk_model.specs.State.{State, is_frozen, is_late, least_source, mark_of, shows}
use Rattle.desk_model.specs.Links.{IsWhole, is_lazy_at}
use Rattle.desk_model.specs.Visit.{stored, asked}
use Rattle.desk_model.proofs.Bounds.{same_inputs}
use Rattle.session_model.specs.Standing.{Standing}
use Rattle.bump_model.specs.Asking.{none, ask_of}
use Rattle.session_why.specs.Computed.{ask_if}
use Rattle.why_model.proofs.Alike.{frozen_same, late_same, mark_same, shows_same, source_found}
use Rattle.why_model.specs.Workings.{PartProduct, part_products, NodeRate, node_rates, flows_at}
use Rattle.why_model.specs.Answer.{named, each_named, parts_text, node_rates_text, sum_text, nodes_of, priced_text}
use Rattle.why_model.specs.Answer.{passing_text, terms_word, shown_text, workings_over, workings_by, workings_of}
use Rattle.why_model.specs.Answer.{source_text, behind, terms_text, slot_text, object_lines, lines_of_each}

-- a session with another state
abbrev pub with_state : Standing → State → Standing
with_state p s = record p { state = s }

-- a session whose state was lent, and is as it was
pub lent : (s : State) (old p : Standing) → old ≡ p → s ≡ old.state → with_state old s ≡ p
lent s old p is same = ap (with_state old) same ∙ is

module _ (p : Standing) (t : State) where
  shown_alike : (outcome : Outcome) → shown_text (with_state p t) outcome ≡ shown_text p outcome
  shown_alike (Ok (value.Money amount)) = refl
  shown_alike (Ok (value.Curve curve)) = refl
  shown_alike (Err cause) = refl

  source_alike : (o : ℕ) (source : Option ℕ) → source_text (with_state p t) o source ≡ source_text p o source
  source_alike o None = refl
  source_alike o (Some source) = refl

  named_alike : (os : List ℕ) → each_named (with_state p t) os ≡ each_named p os
  named_alike [] = refl
  named_alike (o ∷ os) = ap (λ (l : List ℕ). codes " " ++ named p o ++ l) (named_alike os)

  parts_alike : (name : List ℕ) (parts : List PartProduct)
      → parts_text (with_state p t) name parts ≡ parts_text p name parts
  parts_alike name [] = refl
  parts_alike name (part ∷ parts) =
      ap (λ (l : List ℕ). name ++ codes " part " ++ decimal_text part.weight 0 ++ codes " " ++ named p part.member
      ++ codes " "
      ++ decimal_text part.worth 6 ++ codes " " ++ decimal_text part.product 6 ++ codes "\n" ++ l)
      (parts_alike name parts)

  nodes_alike : (name : List ℕ) (nodes : List NodeRate)
      → node_rates_text (with_state p t) name nodes ≡ node_rates_text p name nodes
  nodes_alike name [] = refl
  nodes_alike name (node ∷ nodes) =
      ap (λ (l : List ℕ). name ++ codes " node " ++ point_text node.node.day node.node.factor ++ codes " " ++ named p
      node.quote
      ++ codes " " ++ decimal_text node.rate 9 ++ codes "\n" ++ l) (nodes_alike name nodes)

  module _ (markets : t.market ≡ p.state.market) where
    over_alike : (o : ℕ) (terms : Terms) (shown : Value) (inputs : List input.Input)
        → workings_over (with_state p t) o terms shown inputs ≡ workings_over p o terms shown inputs
    over_alike o (Quote value) shown inputs = refl
    over_alike o (Derived minus first second) shown inputs = refl
    over_alike o (Handle kind target) shown inputs = refl
    over_alike o (Index terms fixings) shown inputs = refl
    over_alike o (Engine curve) shown inputs = refl
    over_alike o (Stock quote) shown inputs = refl
    over_alike o (Curve terms) shown inputs = nodes_alike (named p o) (node_rates (nodes_of shown) terms.helpers inputs)
    over_alike o (Implied curve reference) shown inputs = refl
    over_alike o (Composite parts) shown inputs = parts_alike (named p o) (part_products parts inputs)
    over_alike o (Flows flows engine) shown inputs =
        ap (λ (m : Market). if is_expired flows.flows m.today then [] else sum_text (named p o)
        (flows_at m o flows inputs)) markets

    pub by_alike : (o : ℕ) (terms : Terms) (shown : Value) (r : Result (List input.Input) Cause)
        → workings_by (with_state p t) o terms shown r ≡ workings_by p o terms shown r
    by_alike o terms shown (Ok inputs) = over_alike o terms shown inputs
    by_alike o terms shown (Err cause) = refl

module _ (calc : Calc) (p : Standing) (whole : IsWhole p.state) (a : ℕ) where
  abbrev t : State
  t = asked calc a p.state

  market_same : t.market ≡ p.state.market
  unfolding asked stored
  market_same = refl

  inputs_alike : (o : ℕ)
      → inputs_by (shows calc t) (uses t.market o) ≡ inputs_by (shows calc p.state) (uses p.state.market o)
  inputs_alike o =
      ap (λ (m : Market). inputs_by (shows calc t) (uses m o)) market_same
      ∙ same_inputs (shows calc t) (shows calc p.state) (uses p.state.market o)
      (λ x among. shows_same calc p.state whole a x)

  workings_alike : (o : ℕ) (terms : Terms) (outcome : Outcome)
      → workings_of calc (with_state p t) o terms outcome ≡ workings_of calc p o terms outcome
  workings_alike o terms (Ok shown) =
      ap (workings_by (with_state p t) o terms shown) (inputs_alike o)
      ∙ by_alike p t market_same o terms shown (inputs_by (shows calc p.state) (uses p.state.market o))
  workings_alike o terms (Err cause) = refl

  behind_alike : (o : ℕ) (terms : Terms) → behind calc (with_state p t) o terms ≡ behind calc p o terms
  behind_alike o terms =
      ap (λ (b : Bool). if b then [] else if is_late t o then source_text (with_state p t) o (least_source t o)
      else workings_of calc (with_state p t) o terms (shows calc t o)) (frozen_same calc p.state whole a o)
      ∙ ap (λ (b : Bool). if is_frozen p.state o then [] else if b then source_text (with_state p t) o
      (least_source t o)
      else workings_of calc (with_state p t) o terms (shows calc t o)) (late_same calc p.state whole a o)
      ∙ ap (λ (l : List ℕ). if is_frozen p.state o then [] else if is_late p.state o then l
      else workings_of calc (with_state p t) o terms (shows calc t o))
      (ap (source_text (with_state p t) o) (source_found calc p.state whole a o) ∙ source_alike p t o
      (least_source p.state o))
      ∙ ap (λ (l : List ℕ). if is_frozen p.state o then [] else if is_late p.state o then source_text p o
      (least_source p.state o)
      else l)
      (ap (workings_of calc (with_state p t) o terms) (shows_same calc p.state whole a o) ∙ workings_alike o terms
      (shows calc p.state o))

  priced_alike : (o : ℕ) (terms : Terms) → priced_text calc (with_state p t) o terms ≡ priced_text calc p o terms
  priced_alike o terms =
      ap (λ (m : Mark). named p o ++ codes " " ++ terms_word terms ++ codes " " ++ mark_word m ++ codes " "
      ++ shown_text (with_state p t) (shows calc t o) ++ codes "\n" ++ behind calc (with_state p t) o terms)
      (mark_same calc p.state whole a o)
      ∙ ap (λ (l : List ℕ). named p o ++ codes " " ++ terms_word terms ++ codes " " ++ mark_word (mark_of p.state o)
      ++ codes " "
      ++ l ++ codes "\n" ++ behind calc (with_state p t) o terms)
      (ap (shown_text (with_state p t)) (shows_same calc p.state whole a o) ∙ shown_alike p t (shows calc p.state o))
      ∙ ap (λ (l : List ℕ). named p o ++ codes " " ++ terms_word terms ++ codes " " ++ mark_word (mark_of p.state o)
      ++ codes " "
      ++ shown_text p (shows calc p.state o) ++ codes "\n" ++ l) (behind_alike o terms)

  passing_alike : (o : ℕ) (terms : Terms) → passing_text (with_state p t) o terms ≡ passing_text p o terms
  passing_alike o terms =
      ap (λ (m : Market). named p o ++ codes " " ++ terms_word terms ++ each_named (with_state p t)
      (without 0 (edges m o)) ++ codes "\n") market_same
      ∙ ap (λ (l : List ℕ). named p o ++ codes " " ++ terms_word terms ++ l ++ codes "\n")
      (named_alike p t (without 0 (edges p.state.market o)))

  terms_alike : (o : ℕ) (terms : Terms) → terms_text calc (with_state p t) o terms ≡ terms_text calc p o terms
  terms_alike o (Quote rate) = refl
  terms_alike o (Derived minus first second) = passing_alike o (Derived minus first second)
  terms_alike o (Handle kind target) = passing_alike o (Handle kind target)
  terms_alike o (Index terms fixings) = passing_alike o (Index terms fixings)
  terms_alike o (Engine curve) = passing_alike o (Engine curve)
  terms_alike o (Curve terms) = priced_alike o (Curve terms)
  terms_alike o (Implied curve reference) = priced_alike o (Implied curve reference)
  terms_alike o (Stock quote) = priced_alike o (Stock quote)
  terms_alike o (Composite parts) = priced_alike o (Composite parts)
  terms_alike o (Flows flows engine) = priced_alike o (Flows flows engine)

  slot_alike : (o : ℕ) (s : Slot) → slot_text calc (with_state p t) o s ≡ slot_text calc p o s
  slot_alike o slot.Free = refl
  slot_alike o slot.Today =
      ap (λ (m : Market). named p o ++ codes " day " ++ day_text m.today ++ codes "\n") market_same
  slot_alike o slot.Watcher = refl
  slot_alike o (slot.Live terms) = terms_alike o terms

  pub lines_alike : (o : ℕ) → object_lines calc (with_state p t) o ≡ object_lines calc p o
  unfolding object_lines
  lines_alike o =
      ap (λ (m : Market). slot_text calc (with_state p t) o (slot_at m o)) market_same
      ∙ slot_alike o (slot_at p.state.market o)

  pub each_alike : (os : List ℕ) → lines_of_each calc (with_state p t) os ≡ lines_of_each calc p os
  unfolding lines_of_each
  each_alike [] = refl
  each_alike (o ∷ os) =
      ap (λ (l : List ℕ). l ++ lines_of_each calc (with_state p t) os) (lines_alike o)
      ∙ ap (λ (l : List ℕ). object_lines calc p o ++ l) (each_alike os)

-- and before and after the ask of an object, if it is priced
pub each_after : (calc : Calc) (p : Standing) → IsWhole p.state → (o : ℕ) (os : List ℕ)
    → lines_of_each calc (with_state p (ask_if calc o p.state).next) os ≡ lines_of_each calc p os
each_after calc p whole o os = by (is_lazy_at p.state.market o)
  where
    by : (b : Bool)
        → lines_of_each calc (with_state p (if b then ask_of calc o p.state else none p.state).next) os
        ≡ lines_of_each calc p os
    by true = each_alike calc p whole o os
    by false = refl
