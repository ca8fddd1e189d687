-- Workings by what is stored: parts and nodes.
use Rattle.std.proofs.Common.{◌≡◌, ℕ, ℤ, true, List, [], ◌∷◌, ◌++◌, Option, Some, None, Result, Ok, Err, refl, sym, ◌∙◌}
use Rattle.std.proofs.Common.{ap, subst}
use Rattle.std.specs.Prelude.{IsOk}
use Rattle.curve_points.specs.declared.curves.CurveNode.{CurveNode}
use Rattle.curve_points.specs.Curve.{Curve}
use Rattle.curve_terms.specs.declared.terms.Helper.{Helper}
use Rattle.desk_terms.specs.declared.terms.Part.{Part}
use Rattle.desk_terms.specs.declared.terms.Terms.{Terms}
use Rattle.desk_terms.specs.declared.value.Value.{Value}
use Rattle.desk_terms.specs.declared.value.Value.TheVariants as value
use Rattle.desk_terms.specs.declared.value.Input as input
use Rattle.desk_terms.specs.declared.cause.Cause.{Cause}
use Rattle.desk_terms.specs.Reading.{Outcome, IsWellFormed}
use Rattle.desk_model.specs.declared.entry.Entry.{Entry}
use Rattle.desk_model.specs.declared.entry.Entry.TheVariants.{Gives, Needs, Refuses}
use Rattle.desk_model.specs.Market.{role_of, terms_at, is_lazy}
use Rattle.desk_model.specs.Uses.{input_at, helper_entries, member_entries, reading_at, uses_of}
use Rattle.desk_model.specs.Fresh.{and_inputs, and_value, inputs_by}
use Rattle.desk_model.specs.State.{State, kept_at, last_of, last_answer}
use Rattle.desk_model.specs.Links.{IsWhole, IsKinded, AreOfKind, AreRanged, IsRanged}
use Rattle.desk_model.proofs.Wants.{well_formed}
use Rattle.session_model.specs.Standing.{Standing}
use Rattle.why_model.specs.Workings.{part_product, part_products, NodeRate, node_rates}
use Rattle.why_model.specs.Answer.{named, parts_text}
use Rattle.session_why.specs.Lasts.{last_inputs, parts_by, helper_quotes, and_rates, rates_by, nodes_with}
use Rattle.session_why.proofs.Pieces.{parts_more_text}

-- the inputs by last values make a well-formed reading
last_valued : (o : ℕ) (l : Option Value) (v : Value) → last_of o l ≡ Ok v → l ≡ Some v
last_valued o None v is = absurd (cc)
last_valued o (Some w) v is = let same : w ≡ v = cc in ap Some same

pub reading_formed : (s : State) → IsWhole s → IsKinded s.market → AreRanged s.market
    → (o : ℕ) (terms : Terms) (inputs : List input.Input)
    → terms_at s.market o ≡ Some terms → is_lazy (role_of (Some terms)) ≡ true → last_inputs s o ≡ Ok inputs
    → IsWellFormed (reading_at s.market o terms inputs)
reading_formed s whole kinds ranged o terms inputs are lazy is =
    well_formed s.market kinds (last_answer s)
    (λ x v priced shown. whole.valued x v (last_valued x (kept_at s x).last v shown)) o terms inputs
    (ranged_at are) (subst (AreOfKind s.market) are (kinds o)) lazy
    (ap (λ (t : Option Terms). inputs_by (last_answer s) (uses_of (input_at s.market) s.market o t)) (sym are) ∙ is)
  where
    ranged_at : terms_at s.market o ≡ Some terms → IsRanged (Some terms)
    ranged_at e = subst IsRanged e (ranged o)

-- ---- parts

module _ (p : Standing) (o : ℕ) where
  abbrev last : ℕ → Outcome
  last = last_answer p.state

  -- the first of some parts is written, and the others are left
  by_rest : (part : Part) (parts : List Part) (worth : ℤ) (r : Result (List input.Input) Cause)
      → IsOk (and_inputs (input.TheVariants.Money worth) r)
      → (parts_by p o (part ∷ parts) (and_inputs (input.TheVariants.Money worth) r)
      ≡ parts_text p (named p o) (part_product part worth ∷ []) ++ parts_by p o parts r) × IsOk r
  by_rest part parts worth (Ok inputs) ok =
      (parts_more_text p (named p o) (part_product part worth) (part_products parts inputs), refl)
  by_rest part parts worth (Err cause) ok = absurd (cc)

  pub part_first : (part : Part) (parts : List Part) (worth : ℤ)
      → (kept_at p.state part.member).last ≡ Some (value.Money worth)
      → IsOk (inputs_by last (member_entries (part ∷ parts)))
      → (parts_by p o (part ∷ parts) (inputs_by last (member_entries (part ∷ parts)))
      ≡ parts_text p (named p o) (part_product part worth ∷ []) ++ parts_by p o parts
      (inputs_by last (member_entries parts)))
      × IsOk (inputs_by last (member_entries parts))
  part_first part parts worth is ok =
      let e : last part.member ≡ Ok (value.Money worth) = ap (last_of part.member) is in
      let r = by_rest part parts worth (inputs_by last (member_entries parts))
      (subst (λ (v : Outcome). IsOk (and_value v (inputs_by last (member_entries parts)))) e ok) in (
        ap (λ (v : Outcome). parts_by p o (part ∷ parts) (and_value v (inputs_by last (member_entries parts)))) e
            ∙ r.0,
        r.1,
      )

  -- where a member has no value, or has a curve, nothing more is written
  no_more : (part : Part) (parts : List Part) (curve : Curve) (r : Result (List input.Input) Cause)
      → parts_by p o (part ∷ parts) (and_inputs (input.TheVariants.Curve curve) r) ≡ []
  no_more part parts curve (Ok inputs) = refl
  no_more part parts curve (Err cause) = refl

  pub part_curve : (part : Part) (parts : List Part) (curve : Curve)
      → (kept_at p.state part.member).last ≡ Some (value.Curve curve)
      → parts_by p o (part ∷ parts) (inputs_by last (member_entries (part ∷ parts))) ≡ []
  part_curve part parts curve is =
      ap (λ (v : Outcome). parts_by p o (part ∷ parts) (and_value v (inputs_by last (member_entries parts))))
      (ap (last_of part.member) is)
      ∙ no_more part parts curve (inputs_by last (member_entries parts))

  pub part_none : (part : Part) (parts : List Part) → (kept_at p.state part.member).last ≡ None
      → parts_by p o (part ∷ parts) (inputs_by last (member_entries (part ∷ parts))) ≡ []
  part_none part parts is =
      ap (λ (v : Outcome). parts_by p o (part ∷ parts) (and_value v (inputs_by last (member_entries parts))))
      (ap (last_of part.member) is)

-- ---- nodes

abbrev pub inputs_or_none : Result (List input.Input) Cause → List input.Input
inputs_or_none (Ok inputs) = inputs
inputs_or_none (Err cause) = []

module _ (f : ℕ → Outcome) (read : ℕ → Entry) where
  pub nodes_read : (nodes : List CurveNode) (helpers : List Helper) (inputs : List input.Input)
      → inputs_by f (helper_entries read helpers) ≡ Ok inputs
      → node_rates nodes helpers inputs
      ≡ nodes_with nodes (helper_quotes helpers) (rates_by read (helper_quotes helpers))
  nodes_read [] helpers inputs is = refl
  nodes_read (node ∷ nodes) [] inputs is = refl
  nodes_read (node ∷ nodes) (helper ∷ helpers) inputs is =
      by_entry (read helper.quote) (λ rest are. nodes_read nodes helpers rest are) is
    where
      by_rate : (rate : ℤ) (r : Result (List input.Input) Cause) → inputs_by f (helper_entries read helpers) ≡ r
          → ((rest : List input.Input) → inputs_by f (helper_entries read helpers) ≡ Ok rest
          → node_rates nodes helpers rest
          ≡ nodes_with nodes (helper_quotes helpers) (rates_by read (helper_quotes helpers)))
          → and_inputs (input.TheVariants.Rate rate) r ≡ Ok inputs
          → node_rates (node ∷ nodes) (helper ∷ helpers) inputs
          ≡ nodes_with (node ∷ nodes) (helper.quote ∷ helper_quotes helpers)
          (rate ∷ rates_by read (helper_quotes helpers))
      by_rate rate (Ok rest) are more e =
          ap (λ (q : Result (List input.Input) Cause). node_rates (node ∷ nodes) (helper ∷ helpers) (inputs_or_none q))
          (sym e)
          ∙ ap (λ (l : List NodeRate). record { node = node; quote = helper.quote; rate = rate } ∷ l) (more rest are)
      by_rate rate (Err cause) are more e = absurd (cc)

      by_need : (v : Outcome) (r : Result (List input.Input) Cause) → and_value v r ≡ Ok inputs
          → node_rates (node ∷ nodes) (helper ∷ helpers) inputs ≡ []
      by_need (Ok (value.Money amount)) (Ok rest) e =
          ap (λ (q : Result (List input.Input) Cause). node_rates (node ∷ nodes) (helper ∷ helpers) (inputs_or_none q))
          (sym e)
      by_need (Ok (value.Curve curve)) (Ok rest) e =
          ap (λ (q : Result (List input.Input) Cause). node_rates (node ∷ nodes) (helper ∷ helpers) (inputs_or_none q))
          (sym e)
      by_need (Ok (value.Money amount)) (Err cause) e = absurd (cc)
      by_need (Ok (value.Curve curve)) (Err cause) e = absurd (cc)
      by_need (Err cause) r e = absurd (cc)

      by_entry : (e : Entry)
          → ((rest : List input.Input) → inputs_by f (helper_entries read helpers) ≡ Ok rest
          → node_rates nodes helpers rest
          ≡ nodes_with nodes (helper_quotes helpers) (rates_by read (helper_quotes helpers)))
          → inputs_by f (e ∷ helper_entries read helpers) ≡ Ok inputs
          → node_rates (node ∷ nodes) (helper ∷ helpers) inputs
          ≡ nodes_with (node ∷ nodes) (helper.quote ∷ helper_quotes helpers)
          (and_rates e (rates_by read (helper_quotes helpers)))
      by_entry (Gives rate) more e = by_rate rate (inputs_by f (helper_entries read helpers)) refl more e
      by_entry (Needs x) more e = by_need (f x) (inputs_by f (helper_entries read helpers)) e
      by_entry (Refuses cause) more e = absurd (cc)
