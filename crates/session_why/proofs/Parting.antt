-- The parts of a composite, one behind another.
use Rattle.std.proofs.Common.{◌≡◌, ℕ, ℤ, ◌+◌, ◌<◌, List, [], ◌∷◌, ◌++◌, length, get_or, drop, Some, refl, sym}
use Rattle.std.proofs.Common.{◌∙◌, ap, subst, append_assoc}
use Rattle.std.specs.Prelude.{IsOk}
use Rattle.std.specs.List.{All}
use Rattle.std.proofs.lemmas.List.{append-nil, drop_more}
use Rattle.std.proofs.lemmas.List.Elements.{All-rest}
use Rattle.curve_points.specs.Curve.{Curve}
use Rattle.desk_terms.specs.declared.terms.Part.{Part}
use Rattle.desk_terms.specs.declared.value.Value.TheVariants as value
use Rattle.desk_terms.specs.Parts.{IsWeight}
use Rattle.desk_model.specs.Uses.{member_entries}
use Rattle.desk_model.specs.Fresh.{inputs_by}
use Rattle.desk_model.specs.State.{kept_at, last_answer}
use Rattle.session_model.specs.Standing.{Standing}
use Rattle.why_model.specs.Workings.{part_product}
use Rattle.why_model.specs.Answer.{named, parts_text}
use Rattle.session_why.specs.Lasts.{parts_by}
use Rattle.session_why.proofs.Lasting.{part_first, part_curve}

-- what is still to be written of some parts
abbrev pub left : Standing → ℕ → List Part → List ℕ
left p o parts = parts_by p o parts (inputs_by (last_answer p.state) (member_entries parts))

-- the others have inputs, and their text is behind
pub record IsNext (p : Standing) (o : ℕ) (parts : List Part) (new whole : List ℕ) : Type 0 where
  pub text : new ++ left p o parts ≡ whole
  pub inputs : IsOk (inputs_by (last_answer p.state) (member_entries parts))
  pub weights : All (λ part. IsWeight part.weight) parts

module _ (p : Standing) (o : ℕ) (parts : List Part) (at : ℕ) (part : Part) (within : at < length parts)
    (is : part ≡ get_or parts at part) (old whole : List ℕ) (so_far : IsNext p o (drop at parts) old whole) where
  here : drop at parts ≡ part ∷ drop (at + 1) parts
  here = drop_more parts at part within ∙ ap (λ (x : Part). x ∷ drop (at + 1) parts) (sym is)

  -- the weight at hand
  pub weight_here : IsNext p o (part ∷ drop (at + 1) parts) old whole
  weight_here = subst (λ (l : List Part). IsNext p o l old whole) here so_far

  pub parts_next : (worth : ℤ) (new : List ℕ) → (kept_at p.state part.member).last ≡ Some (value.Money worth)
      → new ≡ old ++ parts_text p (named p o) (part_product part worth ∷ [])
      → IsNext p o (drop (at + 1) parts) new whole
  parts_next worth new shown wrote =
      let n = weight_here in
      let f = part_first p o part (drop (at + 1) parts) worth shown n.inputs in
      let one : List ℕ = parts_text p (named p o) (part_product part worth ∷ []) in
      record {
        text = ap (λ (l : List ℕ). l ++ left p o (drop (at + 1) parts)) wrote
            ∙ append_assoc old one (left p o (drop (at + 1) parts))
            ∙ ap (λ (l : List ℕ). old ++ l) (sym f.0) ∙ n.text;
        inputs = f.1;
        weights =
            All-rest (λ (x : Part). IsWeight x.weight) part (drop (at + 1) parts) (part ∷ drop (at + 1) parts) refl
            n.weights;
      }

  nothing : left p o (part ∷ drop (at + 1) parts) ≡ [] → old ≡ whole
  nothing none = sym (append-nil old) ∙ ap (λ (l : List ℕ). old ++ l) (sym none) ∙ weight_here.text

  -- a member that shows a curve, or nothing
  pub curve_stops : (curve : Curve) → (kept_at p.state part.member).last ≡ Some (value.Curve curve) → old ≡ whole
  curve_stops curve shown = nothing (part_curve p o part (drop (at + 1) parts) curve shown)
