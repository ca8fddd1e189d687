use Rattle.std.proofs.Common.{sym, ◌∙◌, ap, w64, arith}
use Rattle.std.proofs.lemmas.Int.{to_z-of_z}
use Rattle.desk_terms.specs.declared.terms.Part.{Part}
use Rattle.lazy_objects.proofs.Places.{weight_there, no_place}
use Rattle.lazy_objects.proofs.Reweighted.{no_weight}
use Rattle.lazy_objects.proofs.weights.weight_at.Goals as goal

pub returns-in-Some : goal.returns-in-Some
returns-in-Some c =
    to_z-of_z w64 c.weight_in.result (let inv = c.weight_in.type_inv in omega (arith, inv)) ∙ c.weight_in.ensures ∙ ap (λ (p : Part). p.weight) c.index-parts-at.is
    ∙ sym (weight_there c.args.parts.now c.args.member c.in-Some.at (sym c.requires ∙ c.in-Some.is) c.index-parts-at.result)

pub returns-in-None : goal.returns-in-None
returns-in-None c = sym (no_weight c.args.parts.now c.args.member (no_place c.args.parts.now c.args.member (sym c.requires ∙ c.in-None.is)))
