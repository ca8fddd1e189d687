use Rattle.std.proofs.Common.{Option, ap, sym, ◌∙◌, subst}
use Rattle.desk_terms.specs.declared.terms.Terms.{Terms}
use Rattle.desk_model.specs.Market.{role_of, is_lazy}
use Rattle.desk_model.specs.Uses.{input_at, uses_of}
use Rattle.desk_model.specs.Fresh.{inputs_by}
use Rattle.desk_model.specs.Links.{AreOfKind}
use Rattle.desk_model.proofs.Valued.{seen_values}
use Rattle.desk_model.proofs.Wants.{well_formed, needs_lazy}
use Rattle.desk_model.proofs.laws.readings_are_well_formed.Goals as goal

pub returns-clause-readings : goal.returns-clause-readings
returns-clause-readings c = λ m kinds f values o terms inputs is lazy ranged e.
    well_formed m kinds f values o terms inputs ranged (subst (AreOfKind m) is (kinds o)) (ap (λ (t : Option Terms). is_lazy (role_of t)) (sym is) ∙ lazy) (ap (λ (t : Option Terms). inputs_by f (uses_of (input_at m) m o t)) (sym is) ∙ e)

pub returns-clause-values : goal.returns-clause-values
returns-clause-values c = seen_values

pub returns-clause-needs : goal.returns-clause-needs
returns-clause-needs c = needs_lazy
